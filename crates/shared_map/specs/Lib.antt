pub mod Nodes
pub mod Queries
