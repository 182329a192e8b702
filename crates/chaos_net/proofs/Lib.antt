-- The proofs, in the order in which to read them. What is shown: for each connection that asked and each of the other host there is a
-- laboratory that both play (`ArePlayed` of specs/Played.antt), so that the delivery law of laboratories is theirs.
--
--   Lists     places in lists
--   Holding   where all pairs are played, the law holds: law_net_holds
--
--   one connection and its laboratory
--   Moves     a call of a connection is played by an end of a laboratory
--   Pairs     what a call of either of a pair makes of their laboratory
--   Stories   how a story goes on: its peer, its names
--
--   one host's event
--   Next      both stations after one connection's call, all others being as they were
--   Goes      a connection in use: what comes to it, and from whom
--   Gone      its story, its packets and its pairs then
--   Begun     a connection that begins: it asks, or takes a request
--   Steps     each deed of a host, of one of these kinds or none
--
--   the net
--   Network   each event, the start and every run: law_network
--   Short     a run of at most 256 events is fresh: law_short
--   Hello     eight events by computation: law_reached
--   Lasting   stories last: law_lasting
--   Present   what callers hold: law_present
--   Apart     no packet of one connection changes another: law_apart
--   Coming    an item that comes to its peer is held there
--   InTurn    and read in its turn: law_in_turn
--   TwoConnections  ten events by computation: law_two_connections
--
--   a net as it runs
--   Seats     what an event makes of the seats, which tell turns and peers
--   Fresh     what a running net lets come is fresh
--   Marks     the mark that a seat gets is right, for each event of a host
--   Standing  what is kept stands for the net after an event
--   Events    each event of a running net is that event of the definition
--   Starts    a new running net; what holds of each
--   Sides     what an event of one station is for the whole
pub mod Lists
pub mod Holding
pub mod Moves
pub mod Pairs
pub mod Stories
pub mod Next
pub mod Goes
pub mod Gone
pub mod Begun
pub mod Steps
pub mod Network
pub mod Short
pub mod Hello
pub mod Lasting
pub mod Present
pub mod Apart
pub mod Coming
pub mod InTurn
pub mod TwoConnections
pub mod Seats
pub mod Fresh
pub mod Marks
pub mod Standing
pub mod Events
pub mod Starts
pub mod Sides
-- The proofs, in the order in which to read them.
--
--   Made      one event, and one run after another
--   Coming    packets that come, and phases over packets and slots
--   Client    a client's turn: law_client_turns
--   Behind    the net behind two programs: law_systems
--   Halves    the halves of a turn: law_halves
--   Hello     eleven steps by computation: law_hello
--   Queue     a turn over a queue: law_queues
pub mod Made
pub mod SystemComing
pub mod ClientTurns
pub mod Behind
pub mod Queue
pub mod SystemHello
pub mod TurnHalves
