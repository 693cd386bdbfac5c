pub mod Tells
pub mod Lengths
pub mod ImageKept
pub mod SlotKept
pub mod ProtectedKept
