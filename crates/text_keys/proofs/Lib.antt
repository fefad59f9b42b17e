-- Lemmas of the keys.
pub mod Ascii
pub mod Integers
pub mod Numbers
pub mod OwnKeys
pub mod Pieces
pub mod Squeezing
