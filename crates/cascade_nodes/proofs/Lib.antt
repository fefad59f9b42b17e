pub mod Asked
pub mod Commits
pub mod Fed
pub mod Links
