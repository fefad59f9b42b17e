-- Names: what they are, when they are equal, how they are read and written.
pub mod Keys
pub mod Names
pub mod Paths
pub mod Reading
pub mod Sharing
pub mod Sound
pub mod Writing
