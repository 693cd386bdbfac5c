pub mod Starred
pub mod Parameters
pub mod Plain
pub mod Stored
pub mod Large
