pub mod Digits
pub mod Faults
pub mod Packets
pub mod Pairs
pub mod Steps
pub mod Versions
pub mod Runs
pub mod Laws
