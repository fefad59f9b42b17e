pub mod Dealing
pub mod Given
pub mod HandedBack
