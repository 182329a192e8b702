pub mod Codes
pub mod Export
pub mod Handle
pub mod Node
pub mod Raw
