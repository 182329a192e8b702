-- The proofs, in the order in which to read them.
--
--   Serving   each slot is served once: events of the network
--   Phases    the other phases of a server's turn
--   Server    a server's turn: law_file_turns
--   Programs  a program's turn: law_programs
--   Turning   what events make of the turns of B's slots, and of what a server keeps for them
--   Led       runs of events at one side: what came, and the end of a turn
--   Steady    what stays while no connection ends, and what is kept while some do
--   Slots     a server's list of sessions
--   Serve     each slot is served once: events of the file net
--   Turn      a server's turn: law_server_turns
--   Client    a client's turn
--   Systems   both, and the datagrams between them: law_file_systems
--   Saying    what a user says and hears: in events, in a call and in a step of its engine
--   Idle      a client that is idle is ready for an operation, and idle again after the operation
--   Held      moves of an engine that holds a connection, which need not be open
--   Worlds    moves of an engine and a server: law_world
--   Passed    a server that passes over indices leaves each slot free
--   Begun     a new engine and a new server: law_world
--   Asking    an engine that closes its connection, or asks for one: law_world
--   Opened    a connection that the host shows open: law_world
--   Silent    a connection that is asking, or was just asked for, said and heard nothing
--   Beginning  an engine that asked for a connection, and may ask again
--   Computed  a turn of the server, computed
--   Compared  hosts, compared part by part
--   TwoClients  two clients, by computation: law_two_clients
--   Few       no connection wrote more items than its host sent packets
--   Young     packets between young hosts are fresh
--   OneSlot   a server's turn, of which the first slot alone is in use
--   Moving    lines are moves of an engine and a server
--   Going     lines lead on, from file net to file net
--   States    the states of a run that gets a file
--   Spelled   its commands and replies
--   Lines     its lines: each is a move
--   Paths     its lines, one behind the other
--   OneSession  its lines as one session
--   Got       the run: law_world_gets
--   Overs     operations over a client: law_done
pub mod Serving
pub mod Phases
pub mod Server
pub mod Programs
pub mod Turning
pub mod Led
pub mod Steady
pub mod Slots
pub mod Serve
pub mod Turn
pub mod Client
pub mod Systems
pub mod Saying
pub mod Idle
pub mod Held
pub mod Worlds
pub mod Passed
pub mod Begun
pub mod Asking
pub mod Opened
pub mod Silent
pub mod Beginning
pub mod Computed
pub mod Compared
pub mod TwoClients
pub mod Few
pub mod Young
pub mod OneSlot
pub mod Moving
pub mod Going
pub mod States
pub mod Spelled
pub mod Lines
pub mod Paths
pub mod OneSession
pub mod Got
pub mod Overs
