pub mod Acts
pub mod Binding
pub mod Cancelling
pub mod Cuts
pub mod Incoming
pub mod Requests
pub mod Shown
