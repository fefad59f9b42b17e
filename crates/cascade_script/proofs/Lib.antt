pub mod Digits
pub mod KeptLimits
pub mod LastMark
pub mod LineCuts
pub mod Prefixes
pub mod Records
