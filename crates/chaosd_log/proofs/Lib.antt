pub mod Renewed
pub mod Rows
