pub mod Asked
pub mod Spent
pub mod Talking
pub mod Telling
