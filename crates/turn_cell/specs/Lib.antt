-- A cell that passes take turns at: its journal, what passes have seen of it, and the rule that the
-- cell's table keeps.
pub mod Journals
pub mod Rule
pub mod Steps
pub mod Passes
pub mod Turns
pub mod Lent
