pub mod Sessions
pub mod Parameters
pub mod Plain
pub mod Stored
pub mod Large
