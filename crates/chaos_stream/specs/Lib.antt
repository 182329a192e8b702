pub mod Reading
pub mod Shown
pub mod Text
pub mod Writing
pub mod HostNamed
pub mod HostReading
pub mod HostStream
pub mod HostWriting
