pub mod CounterLaws
pub mod CodeLaws
