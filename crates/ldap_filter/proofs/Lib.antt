-- Lemmas over plain variables.
pub mod Alike
pub mod After
pub mod Equalities
pub mod FilterDepths
pub mod Keys
pub mod Lists
pub mod Many
pub mod Rounds
pub mod Texts
pub mod Truths
pub mod Utf8
pub mod Values
