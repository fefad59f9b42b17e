-- A directory by its accepted writes, what these touched, what rejects a commit, and
-- where a search begins.
pub mod Commits
pub mod Directory
pub mod Formed
pub mod Ready
pub mod Standing
pub mod Starting
pub mod Touches
pub mod Weights
