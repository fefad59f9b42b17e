-- Filters without where they lie in memory, their truth and their text.
pub mod Fault
pub mod Grammar
pub mod Matching
pub mod Pieces
pub mod Place
pub mod Reading
pub mod Same
pub mod FilterTree
pub mod Truth
pub mod Writing
