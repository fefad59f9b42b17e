-- Keys of values, and why a value has none.
pub mod Boolean
pub mod Fault
pub mod Integer
pub mod Own
pub mod Text
pub mod Time
