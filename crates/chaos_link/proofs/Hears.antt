-- What a link answers and reports after what came to its socket.
use Rattle.std.proofs.Common.{◌≡◌, ◌∙◌, ℕ, Bool, true, false, ap, refl, subst, sym, if◌then◌else◌, Option, Some, None, Result, Ok, Err}
use Rattle.std.proofs.lemmas.Bool.{false≢true}
use Rattle.std.specs.declared.io.Error.{Error}
use Rattle.std.specs.declared.net.socket_addr.SocketAddr.{SocketAddr}
use Rattle.std.specs.declared.net.socket_addr.SocketAddr.TheVariants.{V4, V6}
use Rattle.std.specs.declared.net.socket_addr.SocketAddrV4.{SocketAddrV4}
use Rattle.std.specs.declared.net.socket_addr.SocketAddrV6.{SocketAddrV6}
use Rattle.chaos_link.specs.Gone.{is_gone_by}
use Rattle.chaos_link.specs.Heard.{HearsAfter}
use Rattle.chaos_link.specs.Peers.{IsPeerAt, PeersView}
use Rattle.chaos_link.specs.SocketFault.{fault_after}
use Rattle.chaos_link.specs.Udp.{UdpView}
use Rattle.chaos_link.specs.declared.link.Received.{Received}
use Rattle.chaos_link.specs.declared.link.Received.TheVariants as receiving
use Rattle.chaos_link.specs.declared.report.LinkReport.{LinkReport}
use Rattle.chaos_link.specs.declared.socket_fault.SocketCall.TheVariants.{Receive}
use Rattle.chaos_link.specs.declared.socket_fault.SocketFault.{SocketFault}

-- nothing is reported yet
abbrev pub IsNew : LinkReport → Type 0
IsNew report = report ≡ record { source = None; fault = None }

module _ (peers : PeersView) (at : SocketAddr) (count : ℕ) (report : LinkReport) (new : IsNew report) where
  -- a datagram from a UDP address of IPv4, which a closed link has among its peers
  pub hears_v4 : (closed : Bool) (from : SocketAddrV4) → at ≡ V4 from → (closed ≡ true → IsPeerAt from peers)
      → HearsAfter closed peers (Ok at) (receiving.Got count) (record report { source = Some from })
  hears_v4 false from is known = rw is (
    true,
    (λ _. tt, λ _. refl),
    ((count, refl), ap (λ (r : LinkReport). record r { source = Some from }) new),
  )
  hears_v4 true from is known = rw is (
    true,
    (λ _. known refl, λ _. refl),
    ((count, refl), ap (λ (r : LinkReport). record r { source = Some from }) new),
  )

  -- from an address of IPv6, by a link that hears anybody
  pub hears_v6 : (closed : Bool) (from : SocketAddrV6) → at ≡ V6 from → closed ≡ false
      → HearsAfter closed peers (Ok at) (receiving.Got count) report
  hears_v6 false from is any = rw is (true, (λ _. tt, λ _. refl), ((count, refl), new))
  hears_v6 true from is any = absurd (false≢true (sym any))

module _ (peers : PeersView) (at : SocketAddr) (report : LinkReport) (new : IsNew report) where
  -- to a closed link, from an address that no peer has
  pub drops_v4 : (closed : Bool) (from : SocketAddrV4) → at ≡ V4 from → closed ≡ true → (IsPeerAt from peers → ⊥)
      → HearsAfter closed peers (Ok at) receiving.Nothing report
  drops_v4 false from is closed unknown = absurd (false≢true closed)
  drops_v4 true from is closed unknown =
      rw is (false, (λ no. absurd (false≢true no), λ known. absurd (unknown known)), (refl, new))

  pub drops_v6 : (closed : Bool) (from : SocketAddrV6) → at ≡ V6 from → closed ≡ true
      → HearsAfter closed peers (Ok at) receiving.Nothing report
  drops_v6 false from is closed = absurd (false≢true closed)
  drops_v6 true from is closed = rw is (false, (λ no. absurd (false≢true no), λ no. absurd no), (refl, new))

-- after an error by which the socket is gone, or not
pub hears_error : (closed : Bool) (peers : PeersView) (error : Error) (report : LinkReport) (fault : Option SocketFault)
    (gone : Bool) → IsNew report → fault ≡ fault_after Receive error None → gone ≡ is_gone_by error
    → HearsAfter closed peers (Err error) (if gone then receiving.Failed else receiving.Nothing)
    (record report { fault = fault })
hears_error closed peers error report fault gone new is_fault is_gone = (
  ap (λ (b : Bool). if b then receiving.Failed else receiving.Nothing) is_gone,
  ap (λ (r : LinkReport). record r { fault = fault }) new
      ∙ ap (λ (f : Option SocketFault). record { source = None; fault = f }) is_fault,
)

-- of the link as its contract sees it
pub viewed : {S K : Type 0} {inside old : UdpView S K} → inside ≡ old → (heard : Result SocketAddr Error) (result : Received)
    (report : LinkReport) → HearsAfter inside.closed inside.peers heard result report
    → HearsAfter old.closed old.peers heard result report
viewed {S} {K} view heard result report hears =
    subst (λ (v : UdpView S K). HearsAfter v.closed v.peers heard result report) view hears
