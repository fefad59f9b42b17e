pub mod Item
pub mod Decision
pub mod Present
