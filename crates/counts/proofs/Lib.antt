pub mod ZeroLaws
pub mod CardLaws
