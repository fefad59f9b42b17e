pub mod Fault
pub mod Grammar
pub mod Lines
pub mod Orders
pub mod Reader
pub mod Reading
pub mod Words
