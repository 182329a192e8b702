-- The proofs, in the order in which to read them.
--
--   Lists     bodies of items, and a transaction more in a history
--   Fits      each reply fits into a packet
--   Quiet     what is no call of B's server leaves the bodies of each connection of B
--   Served    B's server reads an item, and writes a reply
--   Kept      every event keeps that there is one history: law_file_net
--   Events    what a server does at one connection is an event: law_serving
--   Users     what users of A wrote and read: law_users
--   Short     a run of at most 128 events is fresh: law_short_file
--   Example   one of them, by computation: law_served
--   Parts     parts of a history by one connection's commands
--   Shown     a reply shows that its command was carried out
--   Own       commands that ask no store: what they do to their session, whatever others do
--   Next      one command of a connection whose session is known
--   Among     a login, a get and a put among the commands of others
--   Changes   a DELETE and a RENAME among the commands of others
--   Done      each operation in a history, by its kind
--   Clients   the same, from what a client's user wrote and read: the laws of operations
pub mod Lists
pub mod Fits
pub mod Quiet
pub mod Served
pub mod Kept
pub mod Events
pub mod Users
pub mod Short
pub mod Example
pub mod Parts
pub mod Shown
pub mod Own
pub mod Next
pub mod Among
pub mod Changes
pub mod Done
pub mod Clients
