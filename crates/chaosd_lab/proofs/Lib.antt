pub mod Digits
pub mod Copies
pub mod Events
pub mod Settling
pub mod Lines
pub mod Plays
pub mod Inputs
pub mod Ends
pub mod FileLines
pub mod FileSettling
mod Words
