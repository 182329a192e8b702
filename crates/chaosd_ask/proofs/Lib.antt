pub mod Asking
pub mod Handed
pub mod Noted
pub mod Serving
pub mod Noting
