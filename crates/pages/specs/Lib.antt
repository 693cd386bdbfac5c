pub mod Pages
pub mod Cuts
pub mod Inner
