pub mod Appending
pub mod Results
pub mod Scripts
pub mod Sides
