-- The proofs, in the order in which to read them.
--
--   Lists     places in lists of packets and datagrams
--   Deeds     which packet an event hands to a connection
--   Unread    a connection has written at most 64 items more than its peer has read
--   Openers   a connection that was asked has opened the asker, or hears no acknowledgement
--   Mixed     a side as it is now, and the other side as it was, are a net that is reached
--   Earlier   what was written since a packet was sent, by the counters of datagrams
--   Fresh     each packet that comes is fresh: law_fresh
--   Example   eleven events, by computation: law_sealed_hello
--   Turning   a turn of a node, as events of the sealed machine
--   Posting   the datagrams that a node posted, as datagrams that were sealed
--   Nodes     the net behind two nodes: law_sealed_nodes
--   NodesHello  eleven steps of two nodes: law_sealed_nodes_hello
pub mod Lists
pub mod Deeds
pub mod Unread
pub mod Openers
pub mod Mixed
pub mod Earlier
pub mod Fresh
pub mod Example
pub mod Turning
pub mod Posting
pub mod Nodes
pub mod NodesHello
