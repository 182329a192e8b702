pub mod Kept
pub mod Receive
pub mod Send
pub mod Slots
