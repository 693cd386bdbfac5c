pub mod StepLaws
pub mod Decisions
pub mod PresentAgain
