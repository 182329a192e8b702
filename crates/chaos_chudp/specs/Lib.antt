pub mod Chudp
pub mod Hops
pub mod Link
pub mod Sum
