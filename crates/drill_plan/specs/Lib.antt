-- What a drill does, and what is left when it has ended.
pub mod Plain
pub mod Numbers
pub mod Names
pub mod Operations
pub mod Schedule
pub mod Ending
pub mod Summary
