pub mod Log
pub mod Calls
