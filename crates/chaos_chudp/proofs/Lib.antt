pub mod Asked
pub mod Carried
pub mod Handed
pub mod Plain
pub mod Summed
