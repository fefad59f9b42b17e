-- A refresh that is decided piece by piece, and its laws.
pub mod Law
pub mod Slices
