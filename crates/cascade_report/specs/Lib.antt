-- What is reported of the events of a script.
pub mod Digests
pub mod Origins
pub mod ReportLines
pub mod Report
