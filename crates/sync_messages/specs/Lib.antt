pub mod Faults
pub mod Parts
pub mod Request
pub mod State
pub mod Done
pub mod Info
