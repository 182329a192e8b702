-- Each datagram that goes out is guarded.
use Rattle.std.proofs.Common.{◌≡◌, ◌⊎◌, ℕ, ◌+◌, ◌≤◌, List, [], ◌∷◌, ◌++◌, map, Option, Some, None, option_map, refl, arith, ap, ap₂, sym, subst, ◌∙◌, inl, inr}
use Rattle.std.proofs.lemmas.List.{map-append}
use Rattle.std.specs.declared.net.socket_addr.SocketAddr.{SocketAddr}
use Rattle.std.specs.declared.net.socket_addr.SocketAddrV4.{SocketAddrV4}
use Rattle.chaos_link.specs.Heard.{source_of}
use Rattle.chaos_link.specs.Keeper.{Becomes}
use Rattle.chaos_link.specs.Udp.{Outgoing, ReceiveOne, SendTo, SocketAsk, Wait, WaitAtMost, datagrams_in}
use Rattle.chaos_link.proofs.Asked.{datagrams_both}
use Rattle.chaos_seal.specs.Law.{Every, Pairwise}
use Rattle.chaos_seal.specs.Peers.{SealsView, with_peer}
use Rattle.chaos_seal.specs.Seal.{Seals}
use Rattle.chaos_seal.specs.Sending.{SealsFor, newest, sent_once}
use Rattle.chaos_seal.specs.declared.form.Head.{Head}
use Rattle.chaos_seal.specs.declared.opened.Opened.{Opened}
use Rattle.chaos_seal.specs.declared.opened.Opened.TheVariants as opened
use Rattle.chaos_seal.specs.declared.peer.SealPeer.{SealPeer}
use Rattle.chaos_sealed_socket.specs.Beneath.{AsksFor, AsksForAll, Hears}
use Rattle.chaos_sealed_socket.specs.Law.{AreGuarded, Cover, Gone, Grows, GrowsBy, IsGuarded, IsGuardedBy, KeepsKeys, LinkSealsWhatItSends, SealsWhatItSends, sent_by, sent_to}
use Rattle.chaos_sealed_socket.specs.Socket.{Greets, Replies, Sealing, SendsAgain, SendsFor, SendsSealed, Turn, destination_of, quiet, sealed_host}
use Rattle.chaos_sealed_socket.proofs.Keys.{its_destination, keeps_all, keeps_both, opened_keeps, same_host, sealed_count, sealed_keeps}

-- ---- all of a list, and each two of a list

every_more : {X : Type 0} (P Q : X → Type 0) (xs : List X) → ((x : X) → P x → Q x) → Every P xs → Every Q xs
every_more P Q [] f ps = tt
every_more P Q (x ∷ xs) f ps = (f x ps.0, every_more P Q xs f ps.1)

every_both : {X : Type 0} (P : X → Type 0) (xs ys : List X) → Every P xs → Every P ys → Every P (xs ++ ys)
every_both P [] ys ps qs = qs
every_both P (x ∷ xs) ys ps qs = (ps.0, every_both P xs ys ps.1 qs)

pairs_both : {X : Type 0} (R : X → X → Type 0) (xs ys : List X) → Pairwise R xs → Pairwise R ys → Every (λ x. Every (R x) ys) xs
    → Pairwise R (xs ++ ys)
pairs_both R [] ys ps qs cross = qs
pairs_both R (x ∷ xs) ys ps qs cross =
    (every_both (R x) xs ys ps.0 cross.0, pairs_both R xs ys ps.1 qs cross.1)

-- ---- what went out, and how the keys are left

-- no counter is past that of its host
abbrev IsWithinBy : SealsView → Option Cover → Type 0
IsWithinBy w None = Unit {0}
IsWithinBy w (Some cover) = cover.counter ≤ sent_to cover.host w

abbrev IsWithin : SealsView → Gone → Type 0
IsWithin w gone = IsWithinBy w gone.cover

record Guards (v w : SealsView) (datagrams : List Outgoing) : Type 0 where
  guarded : AreGuarded v datagrams
  keeps : KeepsKeys v w
  within : Every (IsWithin w) guarded.gone

none_out : (v w : SealsView) → KeepsKeys v w → Guards v w []
none_out v w keeps =
    record { guarded = record { gone = []; are = refl; each = tt; grow = tt }; keeps = keeps; within = tt }

clear_out : (v : SealsView) (datagram : Outgoing) → sealed_host v datagram.bytes ≡ None → Guards v v (datagram ∷ [])
clear_out v datagram clear = record {
  guarded = record {
    gone = record { datagram = datagram; cover = None } ∷ [];
    are = refl;
    each = (clear, tt);
    grow = (tt, tt);
  };
  keeps = keeps_all v;
  within = (tt, tt);
}

sealed_out : (v w : SealsView) (host : ℕ) (named : SealPeer → ℕ) (payload form : List ℕ) (to : SocketAddrV4)
    → SealsFor v host named payload form w → (payload ≡ []) ⊎ (destination_of payload ≡ Some host)
    → Guards v w (record { to = to; bytes = form } ∷ [])
sealed_out v w host named payload form to s meant =
    let p = s.peer in
    let count : sent_to host (record v { peers = with_peer (sent_once p) v.peers }) ≡ p.sent + 1 = sealed_count v host p s.known in
    let before : sent_to host v ≡ p.sent = ap sent_by s.known in
    subst (λ (w : SealsView). Guards v w (record { to = to; bytes = form } ∷ [])) (sym s.next)
    (record {
      guarded = record {
        gone =
            record {
              datagram = record { to = to; bytes = form };
              cover = Some (record { host = host; named = named p; counter = p.sent + 1; payload = payload });
            } ∷ [];
        are = refl;
        each = (
          record {
            key = p.key;
            known = ap (λ (o : Option SealPeer). option_map (λ (x : SealPeer). x.key) o) s.known;
            sealed = s.sealed;
            later = omega (arith, before);
            meant = meant;
          },
          tt,
        );
        grow = (tt, tt);
      };
      keeps = sealed_keeps v host p s.known;
      within = (omega (arith, count), tt);
    })

-- ---- one list behind another

grows_by : (v : SealsView) (c d : Option Cover) (bytes : List ℕ) → IsWithinBy v c → IsGuardedBy v d bytes → GrowsBy c d
grows_by v None d bytes within guarded = tt
grows_by v (Some a) None bytes within guarded = tt
grows_by v (Some a) (Some b) bytes within guarded = λ same.
    let e : sent_to a.host v ≡ sent_to b.host v = ap (λ (h : ℕ). sent_to h v) same in
    omega (arith, within, guarded.later, e)

guarded_before : (u v : SealsView) → KeepsKeys u v → (c : Option Cover) (bytes : List ℕ) → IsGuardedBy v c bytes
    → IsGuardedBy u c bytes
guarded_before u v keeps None bytes clear = sym (same_host u v keeps bytes) ∙ clear
guarded_before u v keeps (Some c) bytes under = record {
  key = under.key;
  known = sym (keeps.keys c.host) ∙ under.known;
  sealed =
      subst (λ (h : Head). Seals under.key h c.payload bytes)
      (ap₂ (λ (me session : ℕ). record { to = c.host; from = me; session = session; peer = c.named; counter = c.counter })
      keeps.me keeps.session)
      under.sealed;
  later = omega (arith, keeps.counters c.host, under.later);
  meant = under.meant;
}

within_later : (v w : SealsView) → KeepsKeys v w → (c : Option Cover) → IsWithinBy v c → IsWithinBy w c
within_later v w keeps None within = tt
within_later v w keeps (Some c) within = omega (arith, keeps.counters c.host, within)

both_out : (u v w : SealsView) (xs ys : List Outgoing) → Guards u v xs → Guards v w ys → Guards u w (xs ++ ys)
both_out u v w xs ys one two =
    let first = one.guarded.gone in
    let second = two.guarded.gone in
    record {
      guarded = record {
        gone = first ++ second;
        are = map-append (λ (g : Gone). g.datagram) first second ∙ ap₂ (λ (a b : List Outgoing). a ++ b) one.guarded.are two.guarded.are;
        each =
            every_both (IsGuarded u) first second one.guarded.each
            (every_more (IsGuarded v) (IsGuarded u) second (λ g. guarded_before u v one.keeps g.cover g.datagram.bytes)
            two.guarded.each);
        grow =
            pairs_both Grows first second one.guarded.grow two.guarded.grow
            (every_more (IsWithin v) (λ (g : Gone). Every (Grows g) second) first
            (λ g within. every_more (IsGuarded v) (Grows g) second
            (λ h guarded. grows_by v g.cover h.cover h.datagram.bytes within guarded) two.guarded.each)
            one.within);
      };
      keeps = keeps_both u v w one.keeps two.keeps;
      within =
          every_both (IsWithin w) first second
          (every_more (IsWithin v) (IsWithin w) first (λ g. within_later v w two.keeps g.cover) one.within) two.within;
    }

-- ---- one turn

abbrev TurnGuards : Sealing → Turn → Type 0
TurnGuards s turn = Guards s.seals turn.sealing.seals turn.sent

quiet_guards : (s : Sealing) (turn : Turn) → turn ≡ quiet s → TurnGuards s turn
quiet_guards s turn e = subst (TurnGuards s) (sym e) (none_out s.seals s.seals (keeps_all s.seals))

sealed_guards : (host : ℕ) (datagram : Outgoing) (s : Sealing) (turn : Turn) → destination_of datagram.bytes ≡ Some host
    → SendsSealed host datagram s turn → TurnGuards s turn
sealed_guards host datagram s turn for (inl (form, seals, sealed, is)) =
    subst (TurnGuards s) (sym is)
    (sealed_out s.seals seals host newest datagram.bytes form datagram.to sealed (inr for))
sealed_guards host datagram s turn for (inr (lost, is)) = quiet_guards s turn is

send_guards : (o : Option ℕ) (datagram : Outgoing) (s : Sealing) (turn : Turn) → sealed_host s.seals datagram.bytes ≡ o
    → SendsFor o datagram s turn → TurnGuards s turn
send_guards None datagram s turn clear is = subst (TurnGuards s) (sym is) (clear_out s.seals datagram clear)
send_guards (Some host) datagram s turn for is =
    sealed_guards host datagram s turn (its_destination s.seals datagram.bytes host for) is

again_guards : (kept : Option Outgoing) (host : ℕ) (s : Sealing) (turn : Turn) → SendsAgain kept host s turn → TurnGuards s turn
again_guards None host s turn is = quiet_guards s turn is
again_guards (Some datagram) host s turn (inl (for, is)) = sealed_guards host datagram s turn for is
again_guards (Some datagram) host s turn (inr (other, is)) = quiet_guards s turn is

greet_guards : (from : Option SocketAddrV4) (host session : ℕ) (s : Sealing) (turn : Turn) → Greets from host session s turn
    → TurnGuards s turn
greet_guards None host session s turn is = quiet_guards s turn is
greet_guards (Some from) host session s turn (inl (form, seals, sealed, is)) =
    subst (TurnGuards s) (sym is) (sealed_out s.seals seals host (λ p. session) [] form from sealed (inl refl))
greet_guards (Some from) host session s turn (inr (lost, is)) = quiet_guards s turn is

reply_guards : (answer : Opened) (from : SocketAddr) (s : Sealing) (turn : Turn) → Replies answer from s turn → TurnGuards s turn
reply_guards (opened.Hello host session) from s turn is = greet_guards (source_of from) host session s turn is
reply_guards (opened.Learned host) from s turn is = again_guards s.kept host s turn is
reply_guards opened.Plain from s turn is = quiet_guards s turn is
reply_guards (opened.Payload count) from s turn is = quiet_guards s turn is
reply_guards (opened.Refused fault) from s turn is = quiet_guards s turn is

hear_guards : (s : Sealing) (turn : Turn) → Hears s turn → TurnGuards s turn
hear_guards s turn (inl is) = quiet_guards s turn is
hear_guards s turn (inr (from, came, answer, seals, opens, is)) =
    both_out s.seals seals turn.sealing.seals [] turn.sent
    (none_out s.seals seals (opened_keeps s.seals seals came answer opens))
    (reply_guards answer from (record { seals = seals; kept = s.kept }) turn is)

-- ---- all that is asked

sent_are : (sent : List Outgoing) → datagrams_in (map SendTo sent) ≡ sent
sent_are [] = refl
sent_are (d ∷ ds) = ap (λ (l : List Outgoing). d ∷ l) (sent_are ds)

asked_guards : (s : Sealing) (ask : SocketAsk) (next : Sealing) (asks : List SocketAsk) → AsksFor s ask next asks
    → Guards s.seals next.seals (datagrams_in asks)
asked_guards s (SendTo datagram) next asks (sent, is, e) =
    subst (λ (l : List SocketAsk). Guards s.seals next.seals (datagrams_in l)) (sym e)
    (subst (Guards s.seals next.seals) (sym (sent_are sent))
    (send_guards (sealed_host s.seals datagram.bytes) datagram s (record { sealing = next; sent = sent }) refl is))
asked_guards s ReceiveOne next asks (sent, is, e) =
    subst (λ (l : List SocketAsk). Guards s.seals next.seals (datagrams_in l)) (sym e)
    (subst (Guards s.seals next.seals) (sym (sent_are sent)) (hear_guards s (record { sealing = next; sent = sent }) is))
asked_guards s (WaitAtMost nanos) next asks (same, e) =
    subst (λ (l : List SocketAsk). Guards s.seals next.seals (datagrams_in l)) (sym e)
    (subst (λ (n : Sealing). Guards s.seals n.seals []) (sym same) (none_out s.seals s.seals (keeps_all s.seals)))
asked_guards s (Wait waits) next asks (same, e) =
    subst (λ (l : List SocketAsk). Guards s.seals next.seals (datagrams_in l)) (sym e)
    (subst (λ (n : Sealing). Guards s.seals n.seals []) (sym same) (none_out s.seals s.seals (keeps_all s.seals)))

all_guards : (s : Sealing) (asks : List SocketAsk) (last : Sealing) (beneath : List SocketAsk) → AsksForAll s asks last beneath
    → Guards s.seals last.seals (datagrams_in beneath)
all_guards s [] last beneath (same, e) =
    subst (λ (l : List SocketAsk). Guards s.seals last.seals (datagrams_in l)) (sym e)
    (subst (λ (n : Sealing). Guards s.seals n.seals []) (sym same) (none_out s.seals s.seals (keeps_all s.seals)))
all_guards s (ask ∷ asks) last beneath (next, first, others, one, more, e) =
    subst (λ (l : List SocketAsk). Guards s.seals last.seals (datagrams_in l)) (sym e)
    (subst (Guards s.seals last.seals) (sym (datagrams_both first others))
    (both_out s.seals next.seals last.seals (datagrams_in first) (datagrams_in others) (asked_guards s ask next first one)
    (all_guards next asks last others more)))

-- ---- the laws

pub seals_what_it_sends : {S : Type 0} (O : Type 0) (asked : S → S → List SocketAsk → Type 0) → SealsWhatItSends O asked
seals_what_it_sends O asked now start asks was =
    let all = all_guards start.sealing asks now.sealing was.beneath_asks was.goes in
    (was.beneath_asks, was.beneath_asked, all.guarded, all.keeps)

pub link_seals_what_it_sends : {S K : Type 0} (O : Type 0) (asked : S → S → List SocketAsk → Type 0) (becomes : Becomes K)
    → ((socket : S) → asked socket socket []) → LinkSealsWhatItSends O asked becomes
link_seals_what_it_sends O asked becomes began old new asks step =
    let now = step.goes old [] (record {
      socket_asks = [];
      socket_asked = record { beneath_asks = []; beneath_asked = began old.socket.socket; goes = (refl, refl) };
      sends = (refl, refl, refl);
    }) in
    let law = seals_what_it_sends O asked new.socket old.socket now.socket_asks now.socket_asked in
    (law.0, law.1, law.2)
