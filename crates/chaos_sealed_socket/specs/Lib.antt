pub mod Socket
pub mod Notice
pub mod Beneath
pub mod Calls
pub mod Law
pub mod Run
pub mod SomeCalls
