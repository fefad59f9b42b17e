-- A list of pairs as the journal of a cell.
pub mod Entries
