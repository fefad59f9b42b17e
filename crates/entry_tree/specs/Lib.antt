-- What a specification selects from entries, histories of writes, commits that there is room for,
-- what these are judged by, the parts of a tree, identities in their order, and names that an
-- equality pins, with what entry_writes says of entries and writes.
pub mod FilterCode
pub mod Fitting
pub mod History
pub mod IdentityOrder
pub mod Judging
pub mod NameIndex
pub mod Pinned
pub mod Selection
pub use Rattle.entry_writes.specs.Bytes
pub use Rattle.entry_writes.specs.Codes
pub use Rattle.entry_writes.specs.Edits
pub use Rattle.entry_writes.specs.Effects
pub use Rattle.entry_writes.specs.Fault
pub use Rattle.entry_writes.specs.Reading
pub use Rattle.entry_writes.specs.Sound
pub use Rattle.entry_writes.specs.State
pub use Rattle.entry_writes.specs.Touched
