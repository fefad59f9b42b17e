-- The schema: types, classes, keys, lists of attributes and the codes against them.
pub mod Attributes
pub mod Fault
pub mod Keys
pub mod Rows
pub mod Schema
pub mod Sharing
