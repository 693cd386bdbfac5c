pub mod Seats
pub mod Caught
pub mod Parts
pub mod CaughtRecords
pub mod CaughtPrinters
