pub mod History
pub mod FileNet
pub mod Serving
pub mod Short
pub mod Users
pub mod Operations
