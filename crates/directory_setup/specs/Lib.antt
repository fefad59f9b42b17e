-- What a served directory begins with.
pub mod Texts
pub mod Filling
pub mod Setup
