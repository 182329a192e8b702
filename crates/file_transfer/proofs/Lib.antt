mod Running
mod Entering
mod Ending
pub mod Sessions
mod Tried
