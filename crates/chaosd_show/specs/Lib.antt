pub mod Hex
pub mod File
pub mod Report
pub mod Entry
pub mod Show
pub mod Shown
