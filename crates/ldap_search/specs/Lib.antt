-- Searches of LDAP that a client asks over a net.
pub mod Answers
pub mod Copies
pub mod Printing
pub mod Requests
pub mod Talks
pub mod Steps
pub mod Calls
