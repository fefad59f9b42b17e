-- What a search has pending, and when that is too much.
pub mod Pending
