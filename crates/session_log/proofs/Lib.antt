pub mod Keeping
pub mod Searches
pub mod Covering
pub mod InOrder
