pub mod Command
pub mod Printed
pub mod Script
pub mod Conversation
pub mod Asking
pub mod Notes
pub mod Serving
pub mod Typed
