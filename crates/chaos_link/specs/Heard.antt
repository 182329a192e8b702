-- What a link makes of what its socket answers to a receive.
use Rattle.std.specs.Prelude.{ℕ, ◌≡◌, ◌↔◌, Bool, true, false, if◌then◌else◌, IsTrue, Option, Some, None, Result, Ok, Err}
use Rattle.std.specs.declared.io.Error.{Error}
use Rattle.std.specs.declared.net.socket_addr.SocketAddr.{SocketAddr}
use Rattle.std.specs.declared.net.socket_addr.SocketAddr.TheVariants.{V4, V6}
use Rattle.std.specs.declared.net.socket_addr.SocketAddrV4.{SocketAddrV4}
use Rattle.chaos_link.specs.Gone.{is_gone_by}
use Rattle.chaos_link.specs.Peers.{IsPeerAt, PeersView}
use Rattle.chaos_link.specs.SocketFault.{fault_after}
use Rattle.chaos_link.specs.declared.link.Received.{Received}
use Rattle.chaos_link.specs.declared.link.Received.TheVariants as receiving
use Rattle.chaos_link.specs.declared.report.LinkReport.{LinkReport}
use Rattle.chaos_link.specs.declared.socket_fault.SocketCall.TheVariants.{Receive}

-- A link with these peers takes what comes from there: a closed link hears its peers and the bridge alone, and any other
-- link hears anybody.
abbrev pub Takes : Bool → PeersView → SocketAddr → Type 0
Takes false peers from = Unit {0}
Takes true peers (V4 from) = IsPeerAt from peers
Takes true peers (V6 from) = ⊥

-- the UDP address, of IPv4
abbrev pub source_of : SocketAddr → Option SocketAddrV4
source_of (V4 from) = Some from
source_of (V6 from) = None

-- The socket may have answered this to its last call, a receive: from where a datagram came, or an error.
abbrev pub Answered : {S : Type 0} → (S → Option Error → Type 0) → (S → SocketAddr → Type 0) → S → Result SocketAddr Error
    → Type 0
Answered answered came socket (Ok from) = answered socket None × came socket from
Answered answered came socket (Err error) = answered socket (Some error)

-- A datagram that is taken is handed on, and its source is reported. Any other is dropped, as if none had come.
abbrev pub HandsOn : Bool → SocketAddr → Received → LinkReport → Type 0
HandsOn true from result report =
    ((count : ℕ) × (result ≡ receiving.Got count)) × (report ≡ record { source = source_of from; fault = None })
HandsOn false from result report = (result ≡ receiving.Nothing) × (report ≡ record { source = None; fault = None })

-- what a link answers to a receive after this error of its socket: what the system doesn't hand over is nothing
abbrev pub received_after : Error → Received
received_after error = if is_gone_by error then receiving.Failed else receiving.Nothing

-- A link answers this to a receive after this answer of its socket, and reports this.
abbrev pub HearsAfter : Bool → PeersView → Result SocketAddr Error → Received → LinkReport → Type 0
HearsAfter closed peers (Ok from) result report =
    (taken : Bool) × (IsTrue taken ↔ Takes closed peers from) × HandsOn taken from result report
HearsAfter closed peers (Err error) result report =
    (result ≡ received_after error) × (report ≡ record { source = None; fault = fault_after Receive error None })
