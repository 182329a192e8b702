-- What the link beneath was asked, step by step.
use Rattle.std.proofs.Common.{◌≡◌, ℕ, Bool, List, [], ◌∷◌, ◌++◌, Option, Some, None, refl, ap, ap₂, sym, subst, ◌∙◌, append_assoc}
use Rattle.chaos_link.specs.Datagram.{fault_of}
use Rattle.chaos_link.specs.declared.fault.LinkFault.{LinkFault}
use Rattle.chaos_link.specs.Keeper.{Becomes, stays}
use Rattle.chaos_link.specs.Link.{Addressed, Ask, Asks, Receive, Send, to_send}
use Rattle.chaos_link.specs.Udp.{AsksSocket, Outgoing, SocketAsk, UdpView, datagrams_in, outgoing_of, outgoing_to}
use Rattle.chaos_link.specs.Peers.{PeersView, socket_of}
use Rattle.chaos_link.proofs.Asked.{asks_none, fixed_sends}
use Rattle.chaos_chudp.specs.Hops.{HopsView}
use Rattle.chaos_chudp.specs.Link.{AsksBeneath, ChudpView, SocketSendsForms, SocketSendsFormsToFixedPeers, asks_over, form_by, form_of, form_to, forms_of, sends_in}

over_both : (hops : HopsView) (me : ℕ) (xs ys : List Ask)
    → asks_over hops me (xs ++ ys) ≡ asks_over hops me xs ++ asks_over hops me ys
over_both hops me [] ys = refl
over_both hops me (Send datagram ∷ xs) ys =
    ap (λ (l : List Ask). to_send (form_of hops me datagram) ++ l) (over_both hops me xs ys)
    ∙ sym (append_assoc (to_send (form_of hops me datagram)) (asks_over hops me xs) (asks_over hops me ys))
over_both hops me (Receive may_wait ∷ xs) ys = ap (λ (l : List Ask). Receive may_wait ∷ l) (over_both hops me xs ys)

module _ {L : Type 0} (asked : L → L → List Ask → Type 0) (old new : ChudpView L) (me : new.me ≡ old.me)
    (hops : new.hops ≡ old.hops) where
  -- one call
  one_call : (ask : Ask) → Asks (asked old.inner) (asked new.inner) (asks_over old.hops old.me (ask ∷ []))
      → Asks (AsksBeneath asked old) (AsksBeneath asked new) (ask ∷ [])
  one_call ask step = record {
    goes = λ first before was. record {
      me = me ∙ was.me;
      hops = hops ∙ was.hops;
      beneath =
          subst (λ (l : List Ask). asked new.inner first.inner l)
          (ap₂ (λ (h : HopsView) (m : ℕ). asks_over first.hops first.me before ++ asks_over h m (ask ∷ [])) was.hops was.me
          ∙ sym (over_both first.hops first.me before (ask ∷ [])))
          (step.goes first.inner (asks_over first.hops first.me before) was.beneath);
    };
  }

  -- a datagram of version 1
  pub form_sent : (to : ℕ) (bytes sent : List ℕ) → fault_of bytes ≡ None → sent ≡ form_to old.hops old.me to bytes
      → Asks (asked old.inner) (asked new.inner) (Send (record { to = to; bytes = sent }) ∷ [])
      → Asks (AsksBeneath asked old) (AsksBeneath asked new) (Send (record { to = to; bytes = bytes }) ∷ [])
  form_sent to bytes sent sound form step =
      let datagram : Addressed = record { to = to; bytes = bytes } in
      let one : form_of old.hops old.me datagram ≡ record { to = to; bytes = sent } ∷ [] =
      ap (form_by old.hops old.me datagram) sound
      ∙ ap (λ (bs : List ℕ). record { to = to; bytes = bs } ∷ []) (sym form) in
      one_call (Send datagram)
      (subst (λ (ds : List Addressed). Asks (asked old.inner) (asked new.inner) (to_send ds ++ [])) (sym one) step)

  pub one_heard : (may_wait : Bool) → Asks (asked old.inner) (asked new.inner) (Receive may_wait ∷ [])
      → Asks (AsksBeneath asked old) (AsksBeneath asked new) (Receive may_wait ∷ [])
  one_heard may_wait step = one_call (Receive may_wait) step

no_form : (hops : HopsView) (me : ℕ) (datagram : Addressed) (f : Option LinkFault) → (f ≡ None → ⊥)
    → form_by hops me datagram f ≡ []
no_form hops me datagram None faulty = absurd (faulty refl)
no_form hops me datagram (Some f) faulty = refl

-- anything else
pub none_sent : {L : Type 0} (asked : L → L → List Ask → Type 0) (link : ChudpView L) (to : ℕ) (bytes : List ℕ)
    → (fault_of bytes ≡ None → ⊥)
    → Asks (AsksBeneath asked link) (AsksBeneath asked link) (Send (record { to = to; bytes = bytes }) ∷ [])
none_sent asked link to bytes faulty =
    let datagram : Addressed = record { to = to; bytes = bytes } in
    one_call asked link link refl refl (Send datagram)
    (subst (λ (ds : List Addressed). Asks (asked link.inner) (asked link.inner) (to_send ds ++ []))
    (sym (no_form link.hops link.me datagram (fault_of bytes) faulty)) (asks_none (asked link.inner)))

-- ---- over a socket

module _ (peers : PeersView) where
  out_behind : (ds : List Addressed) (xs ys : List Ask) → outgoing_of peers xs ≡ outgoing_of peers ys
      → outgoing_of peers (to_send ds ++ xs) ≡ outgoing_of peers (to_send ds ++ ys)
  out_behind [] xs ys same = same
  out_behind (d ∷ ds) xs ys same =
      ap (λ (l : List Outgoing). outgoing_to (socket_of d.to peers) d.bytes ++ l) (out_behind ds xs ys same)

  sends_both : (xs ys : List Addressed) → to_send (xs ++ ys) ≡ to_send xs ++ to_send ys
  sends_both [] ys = refl
  sends_both (x ∷ xs) ys = ap (λ (l : List Ask). Send x ∷ l) (sends_both xs ys)

  out_are_forms : (hops : HopsView) (me : ℕ) (asks : List Ask)
      → outgoing_of peers (asks_over hops me asks) ≡ outgoing_of peers (to_send (forms_of hops me (sends_in asks)))
  out_are_forms hops me [] = refl
  out_are_forms hops me (Send datagram ∷ asks) =
      out_behind (form_of hops me datagram) (asks_over hops me asks) (to_send (forms_of hops me (sends_in asks)))
      (out_are_forms hops me asks)
      ∙ ap (outgoing_of peers) (sym (sends_both (form_of hops me datagram) (forms_of hops me (sends_in asks))))
  out_are_forms hops me (Receive may_wait ∷ asks) = out_are_forms hops me asks

-- what was asked of the link since it was as it is
asks_from : {S K : Type 0} (asked : S → S → List SocketAsk → Type 0) (becomes : Becomes K)
    → ((socket : S) → asked socket socket []) → (link : ChudpView (UdpView S K))
    → AsksBeneath (AsksSocket asked becomes) link link []
asks_from asked becomes began link = record {
  me = refl;
  hops = refl;
  beneath = record { socket_asks = []; socket_asked = began link.inner.socket; sends = (refl, refl, refl) };
}

pub socket_sends : {S K : Type 0} (asked : S → S → List SocketAsk → Type 0) (becomes : Becomes K)
    → ((socket : S) → asked socket socket []) → SocketSendsForms asked becomes
socket_sends asked becomes began old new asks step =
    let now = step.goes old [] (asks_from asked becomes began old) in
    (now.beneath.socket_asks, now.beneath.socket_asked, now.beneath.sends)

pub socket_sends_to_fixed : {S : Type 0} (asked : S → S → List SocketAsk → Type 0)
    → ((socket : S) → asked socket socket []) → SocketSendsFormsToFixedPeers asked
socket_sends_to_fixed asked began old new asks step =
    let now = socket_sends asked stays began old new asks step in
    let sends = fixed_sends old.inner.keeper old.inner.peers (asks_over old.hops old.me asks) new.inner.keeper new.inner.peers
    (datagrams_in now.0) now.2 in
    (now.0, now.1, sends.1 ∙ out_are_forms old.inner.peers old.hops old.me asks)
