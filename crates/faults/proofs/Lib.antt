pub mod TypeLaws
pub mod FaultLaws
pub mod ClearLaws
