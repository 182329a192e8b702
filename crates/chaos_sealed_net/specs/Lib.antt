pub mod SealedNet
pub mod SealedHello
pub mod SealedNodes
pub mod SealedNodesHello
