-- What goes on between a consumer and its provider.
pub mod Cookies
pub mod Exchange
pub mod Going
pub mod Reception
pub mod Naming
pub mod Parts
pub mod Trace
