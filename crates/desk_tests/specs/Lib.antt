-- What the tests say of passes in groups.
pub mod Groups
