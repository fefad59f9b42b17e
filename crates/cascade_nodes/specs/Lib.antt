-- The nodes of a script.
pub mod Commits
pub mod Link
pub mod Nodes
pub mod Opening
pub mod Ours
