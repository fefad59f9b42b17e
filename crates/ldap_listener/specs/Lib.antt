-- Connections that were served, each on a thread of its own, over one directory.
pub mod Sessions
pub mod Seats
pub mod SeatsOfCode
pub mod Serving
pub mod Beside
