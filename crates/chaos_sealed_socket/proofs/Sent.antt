-- What a send, and what a reply, asks of the socket beneath.
use Rattle.std.proofs.Common.{◌≡◌, ◌≤◌, ℕ, Bool, true, false, if◌then◌else◌, nat_eq, List, [], ◌∷◌, length, Option, Some, None, IfSome, refl, ap, sym, subst, ◌∙◌, arith, inl, inr}
use Rattle.std.specs.Option.{option_eq}
use Rattle.std.specs.declared.net.socket_addr.SocketAddr.{SocketAddr}
use Rattle.std.specs.declared.net.socket_addr.SocketAddrV4.{SocketAddrV4}
use Rattle.std.proofs.lemmas.Bool.Decides.{nat_tests}
use Rattle.chaos_link.specs.Heard.{source_of}
use Rattle.chaos_link.specs.Link.{Asks}
use Rattle.chaos_link.specs.Udp.{Outgoing, SendTo, SocketAsk}
use Rattle.chaos_link.proofs.Asked.{asks_none}
use Rattle.chaos_seal.specs.Peers.{SealsView}
use Rattle.chaos_seal.specs.Sending.{CanSeal, SealsFor, newest}
use Rattle.chaos_seal.specs.declared.opened.Opened.{Opened}
use Rattle.chaos_seal.specs.declared.opened.Opened.TheVariants as opened
use Rattle.chaos_sealed_socket.specs.Calls.{SendsOver, SendsSealedOver, TakesTurn}
use Rattle.chaos_sealed_socket.specs.Notice.{HearsNotice, HearsOnce, notice_of_sent, unheard_notice}
use Rattle.chaos_sealed_socket.specs.Socket.{Greets, IsLost, Replies, SealedView, Sealing, SendsAgain, SendsFor, SendsSealed, Turn, destination_of, quiet, recent_to, sealed_host}

-- ---- nothing goes out

module _ {S O : Type 0} (asked : S → S → List SocketAsk → Type 0) (old : SealedView S O) where
  -- the same seals
  pub stays : (goes : Sealing → Turn → Type 0) (seals : SealsView) (observer : O) → seals ≡ old.sealing.seals
      → goes old.sealing (quiet old.sealing)
      → TakesTurn asked goes old
      (record { socket = old.socket; sealing = record { seals = seals; kept = old.sealing.kept }; observer = observer })
  stays goes seals observer same is = record {
    sent = [];
    turn =
        subst
        (λ (v : SealsView). goes old.sealing (record { sealing = record { seals = v; kept = old.sealing.kept }; sent = [] }))
        (sym same) is;
    asks = asks_none (asked old.socket);
  }

-- ---- a datagram under seal

module _ {S O : Type 0} (asked : S → S → List SocketAsk → Type 0) (hears : HearsNotice O) (old : SealedView S O) (host : ℕ)
    (to : SocketAddrV4) (bytes : List ℕ) where
  pub goes_out : (form : List ℕ) (seals : SealsView) (kept : Option Outgoing) (last : S) (observer : O)
      → SealsFor old.sealing.seals host newest bytes form seals → kept ≡ Some (record { to = to; bytes = bytes })
      → Asks (asked old.socket) (asked last) (SendTo (record { to = to; bytes = form }) ∷ [])
      → HearsOnce hears old.observer (unheard_notice host seals) observer
      → SendsSealedOver asked hears host (record { to = to; bytes = bytes }) old
      (record { socket = last; sealing = record { seals = seals; kept = kept }; observer = observer })
  goes_out form seals kept last observer sealed same step heard = record {
    takes = record {
      sent = record { to = to; bytes = form } ∷ [];
      turn =
          inl (
            form,
            seals,
            sealed,
            ap (λ (k : Option Outgoing). record {
              sealing = record { seals = seals; kept = k };
              sent = record { to = to; bytes = form } ∷ [];
            }) same,
          );
      asks = step;
    };
    heard = heard;
  }

  pub is_lost : (seals : SealsView) → seals ≡ old.sealing.seals → IsLost old.sealing.seals host bytes
      → SendsSealedOver asked hears host (record { to = to; bytes = bytes }) old
      (record { socket = old.socket; sealing = record { seals = seals; kept = old.sealing.kept }; observer = old.observer })
  unfolding stays
  is_lost seals same lost = record {
    takes = stays asked old (SendsSealed host (record { to = to; bytes = bytes })) seals old.observer same (inr (lost, refl));
    heard = refl;
  }

-- ---- a send

module _ {S O : Type 0} (asked : S → S → List SocketAsk → Type 0) (hears : HearsNotice O) (old : SealedView S O)
    (datagram : Outgoing) where
  pub sends_clear : (o : Option ℕ) (last : S) → o ≡ sealed_host old.sealing.seals datagram.bytes → o ≡ None
      → Asks (asked old.socket) (asked last) (SendTo datagram ∷ [])
      → SendsOver asked hears datagram old (record { socket = last; sealing = old.sealing; observer = old.observer })
  sends_clear o last found none step =
      let clear : None ≡ sealed_host old.sealing.seals datagram.bytes = sym none ∙ found in
      record {
        takes = record {
          sent = datagram ∷ [];
          turn =
              subst (λ (o : Option ℕ). SendsFor o datagram old.sealing (record { sealing = old.sealing; sent = datagram ∷ [] }))
              clear refl;
          asks = step;
        };
        heard =
            subst
            (λ (o : Option ℕ). HearsOnce hears old.observer (notice_of_sent o old.sealing.seals (datagram ∷ [])) old.observer)
            clear refl;
      }

  pub sends_sealed : (new : SealedView S O) (o : Option ℕ) (host : ℕ) → o ≡ sealed_host old.sealing.seals datagram.bytes
      → o ≡ Some host → SendsSealedOver asked hears host datagram old new → SendsOver asked hears datagram old new
  sends_sealed new o host found some is =
      let for : Some host ≡ sealed_host old.sealing.seals datagram.bytes = sym some ∙ found in
      record {
        takes = record {
          sent = is.takes.sent;
          turn =
              subst (λ (o : Option ℕ). SendsFor o datagram old.sealing (record { sealing = new.sealing; sent = is.takes.sent }))
              for is.takes.turn;
          asks = is.takes.asks;
        };
        heard =
            subst
            (λ (o : Option ℕ). HearsOnce hears old.observer (notice_of_sent o new.sealing.seals is.takes.sent) new.observer)
            for is.heard;
      }

-- ---- a hello

module _ {S O : Type 0} (asked : S → S → List SocketAsk → Type 0) (old : SealedView S O) (from : SocketAddr)
    (there : SocketAddrV4) (known : source_of from ≡ Some there) (host session : ℕ) where
  pub greets : (form : List ℕ) (seals : SealsView) (last : S)
      → SealsFor old.sealing.seals host (λ p. session) [] form seals
      → Asks (asked old.socket) (asked last) (SendTo (record { to = there; bytes = form }) ∷ [])
      → TakesTurn asked (Greets (source_of from) host session) old
      (record { socket = last; sealing = record { seals = seals; kept = old.sealing.kept }; observer = old.observer })
  greets form seals last sealed step =
      subst
      (λ (o : Option SocketAddrV4). TakesTurn asked (Greets o host session) old
      (record { socket = last; sealing = record { seals = seals; kept = old.sealing.kept }; observer = old.observer }))
      (sym known)
      (record { sent = record { to = there; bytes = form } ∷ []; turn = inl (form, seals, sealed, refl); asks = step })

  pub greets_not : (seals : SealsView) → seals ≡ old.sealing.seals → (CanSeal host old.sealing.seals → ⊥)
      → TakesTurn asked (Greets (source_of from) host session) old
      (record { socket = old.socket; sealing = record { seals = seals; kept = old.sealing.kept }; observer = old.observer })
  greets_not seals same lost =
      subst
      (λ (o : Option SocketAddrV4). TakesTurn asked (Greets o host session) old
      (record { socket = old.socket; sealing = record { seals = seals; kept = old.sealing.kept }; observer = old.observer }))
      (sym known) (stays asked old (Greets (Some there) host session) seals old.observer same (inr (lost, refl)))

-- ---- the kept datagram

same_option : (o : Option ℕ) (host : ℕ) → option_eq nat_eq o (Some host) ≡ true → o ≡ Some host
same_option None host e = absurd (cc)
same_option (Some to) host e = let same : to ≡ host = grind (arith, nat_tests) in ap Some same

chosen : (b : Bool) (datagram : Outgoing) (to : SocketAddrV4)
    → ◌≡◌ {A = Option SocketAddrV4} (if b then Some datagram.to else None) (Some to) → (b ≡ true) × (datagram.to ≡ to)
chosen true datagram to e = (refl, cc)
chosen false datagram to e = absurd (cc)

lost_again : (host : ℕ) (to : SocketAddrV4) (bytes : List ℕ) (kept : Option Outgoing) (before : SealsView)
    → recent_to host kept ≡ Some to → IfSome kept (λ d. bytes ≡ d.bytes) → IsLost before host bytes
    → SendsAgain kept host (record { seals = before; kept = kept }) (quiet (record { seals = before; kept = kept }))
lost_again host to bytes None before found same lost = refl
lost_again host to bytes (Some d) before found same lost =
    let (test, there) = chosen (option_eq nat_eq (destination_of d.bytes) (Some host)) d to found in
    inl (
      same_option (destination_of d.bytes) host test,
      inr (subst (λ (l : List ℕ). IsLost before host l) same lost, refl),
    )

module _ {S O : Type 0} (asked : S → S → List SocketAsk → Type 0) (host : ℕ) (to : SocketAddrV4) (bytes : List ℕ) where
  again : (kept : Option Outgoing) (socket last : S) (before seals : SealsView) (observer : O) (form : List ℕ)
      → recent_to host kept ≡ Some to → IfSome kept (λ d. bytes ≡ d.bytes)
      → SealsFor before host newest bytes form seals
      → Asks (asked socket) (asked last) (SendTo (record { to = to; bytes = form }) ∷ [])
      → TakesTurn asked (SendsAgain kept host)
      (record { socket = socket; sealing = record { seals = before; kept = kept }; observer = observer })
      (record { socket = last; sealing = record { seals = seals; kept = kept }; observer = observer })
  again None socket last before seals observer form found same sealed step = absurd (cc)
  again (Some d) socket last before seals observer form found same sealed step =
      let (test, there) = chosen (option_eq nat_eq (destination_of d.bytes) (Some host)) d to found in
      record {
        sent = record { to = d.to; bytes = form } ∷ [];
        turn = inl (
          same_option (destination_of d.bytes) host test,
          inl (form, seals, subst (λ (l : List ℕ). SealsFor before host newest l form seals) same sealed, refl),
        );
        asks =
            subst (λ (a : SocketAddrV4). Asks (asked socket) (asked last) (SendTo (record { to = a; bytes = form }) ∷ []))
            (sym there) step;
      }

  pub sends_again : (old : SealedView S O) (last : S) (seals : SealsView) (form : List ℕ)
      → recent_to host old.sealing.kept ≡ Some to → IfSome old.sealing.kept (λ d. bytes ≡ d.bytes)
      → SealsFor old.sealing.seals host newest bytes form seals
      → Asks (asked old.socket) (asked last) (SendTo (record { to = to; bytes = form }) ∷ [])
      → TakesTurn asked (SendsAgain old.sealing.kept host) old
      (record { socket = last; sealing = record { seals = seals; kept = old.sealing.kept }; observer = old.observer })
  sends_again old last seals form =
      again old.sealing.kept old.socket last old.sealing.seals seals old.observer form

  pub sends_none_again : (old : SealedView S O) (seals : SealsView) → seals ≡ old.sealing.seals
      → recent_to host old.sealing.kept ≡ Some to → IfSome old.sealing.kept (λ d. bytes ≡ d.bytes)
      → IsLost old.sealing.seals host bytes
      → TakesTurn asked (SendsAgain old.sealing.kept host) old
      (record { socket = old.socket; sealing = record { seals = seals; kept = old.sealing.kept }; observer = old.observer })
  sends_none_again old seals same found bytes_are lost =
      stays asked old (SendsAgain old.sealing.kept host) seals old.observer same
      (lost_again host to bytes old.sealing.kept old.sealing.seals found bytes_are lost)

-- ---- At most one datagram goes out.

one_sealed : (host : ℕ) (datagram : Outgoing) (s : Sealing) (turn : Turn) → SendsSealed host datagram s turn
    → length turn.sent ≤ 1
one_sealed host datagram s turn (inl (form, seals, sealed, is)) =
    subst (λ (t : Turn). length t.sent ≤ 1) (sym is) (omega arith)
one_sealed host datagram s turn (inr (lost, is)) = subst (λ (t : Turn). length t.sent ≤ 1) (sym is) (omega arith)

one_again : (kept : Option Outgoing) (host : ℕ) (s : Sealing) (turn : Turn) → SendsAgain kept host s turn → length turn.sent ≤ 1
one_again None host s turn is = subst (λ (t : Turn). length t.sent ≤ 1) (sym is) (omega arith)
one_again (Some datagram) host s turn (inl (for, is)) = one_sealed host datagram s turn is
one_again (Some datagram) host s turn (inr (other, is)) = subst (λ (t : Turn). length t.sent ≤ 1) (sym is) (omega arith)

one_greeting : (from : Option SocketAddrV4) (host session : ℕ) (s : Sealing) (turn : Turn) → Greets from host session s turn
    → length turn.sent ≤ 1
one_greeting None host session s turn is = subst (λ (t : Turn). length t.sent ≤ 1) (sym is) (omega arith)
one_greeting (Some from) host session s turn (inl (form, seals, sealed, is)) =
    subst (λ (t : Turn). length t.sent ≤ 1) (sym is) (omega arith)
one_greeting (Some from) host session s turn (inr (lost, is)) =
    subst (λ (t : Turn). length t.sent ≤ 1) (sym is) (omega arith)

pub one_reply : (answer : Opened) (from : SocketAddr) (s : Sealing) (turn : Turn) → Replies answer from s turn
    → length turn.sent ≤ 1
one_reply (opened.Hello host session) from s turn is = one_greeting (source_of from) host session s turn is
one_reply (opened.Learned host) from s turn is = one_again s.kept host s turn is
one_reply opened.Plain from s turn is = subst (λ (t : Turn). length t.sent ≤ 1) (sym is) (omega arith)
one_reply (opened.Payload count) from s turn is = subst (λ (t : Turn). length t.sent ≤ 1) (sym is) (omega arith)
one_reply (opened.Refused fault) from s turn is = subst (λ (t : Turn). length t.sent ≤ 1) (sym is) (omega arith)
