-- What went into a ring, what came out, and what each end knows of it.
pub mod Ends
