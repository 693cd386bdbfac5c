pub mod Tests
pub mod Choices
pub mod Lists
pub mod Windows
pub mod Numbers
