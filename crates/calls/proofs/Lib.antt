pub mod CallLaws
pub mod Lengths
