-- Lemmas of the tests.
pub mod Puts
