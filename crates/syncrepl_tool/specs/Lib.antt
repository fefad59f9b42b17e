pub mod Cascade
pub mod DrillWords
pub mod Numbers
pub mod Searching
pub mod SearchWords
pub mod Serve
pub mod Serving
pub mod Texts
