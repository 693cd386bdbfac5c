pub mod Computed
pub mod Printing
pub mod TurnLaws
