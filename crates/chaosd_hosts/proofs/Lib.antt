pub mod Cut
pub mod Lines
pub mod Places
pub mod Rows
pub mod Sources
pub mod Texts
