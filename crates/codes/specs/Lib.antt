pub mod Counters
pub mod Codes
