pub mod Streams
pub mod Ends
pub mod Cutting
pub mod CutEnds
pub mod Writers
