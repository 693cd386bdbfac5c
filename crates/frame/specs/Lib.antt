pub mod Answers
pub mod Exchange
