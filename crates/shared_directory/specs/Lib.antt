-- Ports of a directory that many threads write to, search and follow at once.
pub mod Numbers
pub mod Desks
pub mod Passes
