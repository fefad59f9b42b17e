-- Clients of a link: what they keep, and what each of their calls does.
pub mod Links
pub mod Messages
pub mod Receiving
pub mod Clients
pub mod Rounds
