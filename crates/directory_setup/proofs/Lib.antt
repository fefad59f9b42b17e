-- Lemmas of the crate.
pub mod Alike
pub mod Configs
pub mod Fillings
pub mod OneFilling
pub mod OneRefusal
pub mod OneText
pub mod ReadFaults
pub mod ReadTexts
pub mod Setups
pub mod TextLimits
