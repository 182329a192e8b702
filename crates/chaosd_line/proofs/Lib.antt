pub mod Named
pub mod Planned
pub mod Reading
mod Simple
