pub mod Asked
pub mod Done
pub mod ServeKeys
pub mod ServedPeers
pub mod Shown
pub mod Skipped
pub mod Status
pub mod Typed
