pub mod Faults
pub mod Components
pub mod Attributes
pub mod Controls
pub mod Filters
pub mod Agreement
