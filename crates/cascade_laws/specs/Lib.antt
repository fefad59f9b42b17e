pub mod Headline
pub mod Run
pub mod Reports
