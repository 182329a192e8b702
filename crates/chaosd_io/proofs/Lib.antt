pub mod FirstByte
pub mod ReadBack
pub mod TextBytes
pub mod Writes
pub mod Interruptions
pub mod Steps
pub mod Cutting
pub mod Runs
mod Digits
