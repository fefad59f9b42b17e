pub mod UuidLemmas
pub mod PartLemmas
pub mod RequestLemmas
pub mod StateLemmas
pub mod DoneLemmas
pub mod InfoLemmas
pub mod CutLemmas
