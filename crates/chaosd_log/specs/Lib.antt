pub mod Level
pub mod Limiter
pub mod PeerSources
pub mod Change
pub mod Refusals
pub mod Warning
