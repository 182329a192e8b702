pub mod TextLaw
pub mod Cuts
pub mod Putting
pub mod HostNamed
pub mod HostPutting
pub mod HostLooks
pub mod HostLeaving
