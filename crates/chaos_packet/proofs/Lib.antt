pub mod Headers
pub mod Packing
pub mod Pairs
