-- Lemmas of the crate.
pub mod Messages
pub mod Waiting
pub mod Given
pub mod Taking
pub mod RoundSteps
pub mod Asking
