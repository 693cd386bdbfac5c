pub mod Fronts
pub mod Runs
pub mod Proper
pub mod Heard
pub mod Rules
