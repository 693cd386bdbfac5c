pub mod Fronting
pub mod Verdicts
pub mod Insertions
pub mod Came
pub mod Kept
pub mod Short
