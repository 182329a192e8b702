pub mod Severity
pub mod Outcome
pub mod Progress
pub mod Runs
pub mod Copied
pub mod Sessions
pub mod Done
pub mod Settling
