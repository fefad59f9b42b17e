pub mod Keys
pub mod Upstreams
pub mod Settings
