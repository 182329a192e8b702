-- What is handed up in a run.
use Rattle.std.proofs.Common.{◌≡◌, ℕ, ◌==◌, true, false, if◌then◌else◌, List, [], ◌∷◌, map, Option, Some, None, option_map, All, Contains, refl, arith, ap, ap₂, sym, subst, ◌∙◌, inl, inr}
use Rattle.std.proofs.lemmas.Bool.{cases_eq}
use Rattle.std.proofs.lemmas.Bool.Decides.{nat_tests}
use Rattle.std.proofs.lemmas.List.Elements.{All-cons, All-head, All-tail}
use Rattle.std.specs.declared.net.socket_addr.SocketAddr.{SocketAddr}
use Rattle.std.specs.declared.net.socket_addr.SocketAddrV4.{SocketAddrV4}
use Rattle.chaos_link.specs.Heard.{source_of}
use Rattle.chaos_link.specs.Udp.{Outgoing}
use Rattle.chaos_seal.specs.Law.{Every, HandsUp, HasRightTag, IsUnheard, Rises, Up}
use Rattle.chaos_seal.specs.Opening.{Opens}
use Rattle.chaos_seal.specs.Peers.{Keeps, SealsView, peer_of, with_peer}
use Rattle.chaos_seal.specs.Seal.{Seals, payload_of}
use Rattle.chaos_seal.specs.Sending.{SealsFor, newest, sent_once}
use Rattle.chaos_seal.specs.Sources.{IsClear}
use Rattle.chaos_seal.specs.Window.{nothing_heard}
use Rattle.chaos_seal.specs.declared.form.Head.{Head}
use Rattle.chaos_seal.specs.declared.opened.Opened.{Opened}
use Rattle.chaos_seal.specs.declared.opened.Opened.TheVariants as opened
use Rattle.chaos_seal.specs.declared.peer.SealPeer.{SealPeer}
use Rattle.chaos_seal.proofs.Answered.{comes_up}
use Rattle.chaos_seal.proofs.Parts.{payload_is}
use Rattle.chaos_seal.proofs.Safe.{every_more, safe}
use Rattle.chaos_seal.proofs.Table.{its_address, kept, kept_all}
use Rattle.chaos_sealed_socket.specs.Law.{KeepsKeys}
use Rattle.chaos_sealed_socket.specs.Run.{Call, HandsUpOnce, Makes, Opening, Sending, came_in, handed_up, passed_up}
use Rattle.chaos_sealed_socket.specs.Socket.{Greets, Replies, Sealing, SendsAgain, SendsFor, SendsSealed, Turn, quiet, sealed_host}
use Rattle.chaos_sealed_socket.proofs.Keys.{keeps_all, keeps_both, opened_keeps, same_in_clear, sealed_keeps}

-- ---- what sealing leaves

-- Nothing that was heard changes, and no key.
record Leaves (v w : SealsView) : Type 0 where
  heard : Keeps v w
  keys : KeepsKeys v w
  unheard : IsUnheard v → IsUnheard w

leaves_all : (v : SealsView) → Leaves v v
leaves_all v = record { heard = kept_all v; keys = keeps_all v; unheard = λ u. u }

leaves_both : (u v w : SealsView) → Leaves u v → Leaves v w → Leaves u w
leaves_both u v w one two = record {
  heard = record {
    me = two.heard.me ∙ one.heard.me;
    session = two.heard.session ∙ one.heard.session;
    closed = two.heard.closed ∙ one.heard.closed;
    heard = λ address. two.heard.heard address ∙ one.heard.heard address;
  };
  keys = keeps_both u v w one.keys two.keys;
  unheard = λ is. two.unheard (one.unheard is);
}

all_with : (P : SealPeer → Type 0) (q : SealPeer) (ps : List SealPeer) → P q → All P ps → All P (with_peer q ps)
all_with P q [] here all = all
all_with P q (x ∷ xs) here all =
    elim (x.address == q.address) as (λ t. All P (if t then q ∷ xs else x ∷ with_peer q xs)) [
      | true ↦ All-cons P q xs here (All-tail P x xs all)
      | false ↦ All-cons P x (with_peer q xs) (All-head P x xs all) (all_with P q xs here (All-tail P x xs all))
    ]

one_of : (P : SealPeer → Type 0) (a : ℕ) (ps : List SealPeer) (p : SealPeer) → All P ps → peer_of a ps ≡ Some p → P p
one_of P a [] p all found = absurd (cc)
one_of P a (x ∷ xs) p all found =
    elim (cases_eq x.address a) [
      | inl e ↦
          let test : (x.address == a) ≡ true = grind (arith, nat_tests) in
          let is : Some x ≡ Some p = rw test at found in
          let same : x ≡ p = cc in
          rw (← same) (All-head P x xs all)
      | inr ne ↦
          let test : (x.address == a) ≡ false = grind (arith, nat_tests) in
          one_of P a xs p (All-tail P x xs all) (rw test at found)
    ]

sealed_leaves : (v w : SealsView) (host : ℕ) (named : SealPeer → ℕ) (payload form : List ℕ)
    → SealsFor v host named payload form w → Leaves v w
sealed_leaves v w host named payload form s =
    let p = s.peer in
    let own : peer_of (sent_once p).address v.peers ≡ Some p =
    ap (λ (a : ℕ). peer_of a v.peers) (its_address host v.peers p s.known) ∙ s.known in
    subst (Leaves v) (sym s.next)
    (record {
      heard = kept v (sent_once p) p own refl;
      keys = sealed_keeps v host p s.known;
      unheard = λ all.
          all_with (λ (q : SealPeer). (q.session ≡ 0) × (q.window ≡ nothing_heard)) (sent_once p) v.peers
          (one_of (λ (q : SealPeer). (q.session ≡ 0) × (q.window ≡ nothing_heard)) host v.peers p all s.known) all;
    })

-- ---- one turn

abbrev TurnLeaves : Sealing → Turn → Type 0
TurnLeaves s turn = Leaves s.seals turn.sealing.seals

quiet_leaves : (s : Sealing) (turn : Turn) → turn ≡ quiet s → TurnLeaves s turn
quiet_leaves s turn is = subst (TurnLeaves s) (sym is) (leaves_all s.seals)

seal_leaves : (host : ℕ) (datagram : Outgoing) (s : Sealing) (turn : Turn) → SendsSealed host datagram s turn
    → TurnLeaves s turn
seal_leaves host datagram s turn (inl (form, seals, sealed, is)) =
    subst (TurnLeaves s) (sym is) (sealed_leaves s.seals seals host newest datagram.bytes form sealed)
seal_leaves host datagram s turn (inr (lost, is)) = quiet_leaves s turn is

send_leaves : (o : Option ℕ) (datagram : Outgoing) (s : Sealing) (turn : Turn) → SendsFor o datagram s turn
    → TurnLeaves s turn
send_leaves None datagram s turn is = subst (TurnLeaves s) (sym is) (leaves_all s.seals)
send_leaves (Some host) datagram s turn is = seal_leaves host datagram s turn is

again_leaves : (last : Option Outgoing) (host : ℕ) (s : Sealing) (turn : Turn) → SendsAgain last host s turn
    → TurnLeaves s turn
again_leaves None host s turn is = quiet_leaves s turn is
again_leaves (Some datagram) host s turn (inl (for, is)) = seal_leaves host datagram s turn is
again_leaves (Some datagram) host s turn (inr (other, is)) = quiet_leaves s turn is

greet_leaves : (from : Option SocketAddrV4) (host session : ℕ) (s : Sealing) (turn : Turn) → Greets from host session s turn
    → TurnLeaves s turn
greet_leaves None host session s turn is = quiet_leaves s turn is
greet_leaves (Some from) host session s turn (inl (form, seals, sealed, is)) =
    subst (TurnLeaves s) (sym is) (sealed_leaves s.seals seals host (λ p. session) [] form sealed)
greet_leaves (Some from) host session s turn (inr (lost, is)) = quiet_leaves s turn is

reply_leaves : (answer : Opened) (from : SocketAddr) (s : Sealing) (turn : Turn) → Replies answer from s turn
    → TurnLeaves s turn
reply_leaves (opened.Hello host session) from s turn is = greet_leaves (source_of from) host session s turn is
reply_leaves (opened.Learned host) from s turn is = again_leaves s.kept host s turn is
reply_leaves opened.Plain from s turn is = quiet_leaves s turn is
reply_leaves (opened.Payload count) from s turn is = quiet_leaves s turn is
reply_leaves (opened.Refused fault) from s turn is = quiet_leaves s turn is

-- ---- what rises

-- What is handed up of a seal has a right tag.
raised : (v w : SealsView) (d : List ℕ) (count : ℕ) → Opens v d (opened.Payload count) w
    → (u : Up) × HasRightTag v u d × (u.payload ≡ payload_of d)
raised v w d count opens =
    let (p, h, payload, comes, is) = comes_up v w d count opens in
    let head : h ≡ record { to = v.me; from = h.from; session = h.session; peer = v.session; counter = h.counter } =
    ap₂ (λ (to peer : ℕ). record { to = to; from = h.from; session = h.session; peer = peer; counter = h.counter })
    comes.me is.0.0 in (
      record { from = h.from; session = h.session; counter = h.counter; payload = payload },
      (
        p.key,
        ap (option_map (λ (q : SealPeer). q.key)) comes.known,
        subst (λ (k : Head). Seals p.key k payload d) head comes.sealed,
      ),
      sym (payload_is comes.sealed),
    )

-- the rest, with what one datagram hands up in front
abbrev RisesAs : SealsView → List ℕ → Opened → SocketAddr → List Call → List Up → Type 0
RisesAs v d answer from calls rest = (ups : List Up) × Rises v d answer ups rest
    × (map (λ (u : Up). u.payload) ups ≡ handed_up (Opening from d answer ∷ calls))

rises : (v w : SealsView) (d : List ℕ) (answer : Opened) (from : SocketAddr) (calls : List Call) (rest : List Up)
    → Opens v d answer w → map (λ (u : Up). u.payload) rest ≡ handed_up calls → RisesAs v d answer from calls rest
rises v w d (opened.Payload count) from calls rest opens same =
    let (u, right, payload) = raised v w d count opens in
    (u ∷ rest, (u, right, refl), ap₂ (λ (x : List ℕ) (l : List (List ℕ)). x ∷ l) payload same)
rises v w d opened.Plain from calls rest opens same = (rest, refl, same)
rises v w d (opened.Hello host session) from calls rest opens same = (rest, refl, same)
rises v w d (opened.Learned host) from calls rest opens same = (rest, refl, same)
rises v w d (opened.Refused fault) from calls rest opens same = (rest, refl, same)

-- ---- a run

-- From these keys sealing leads to others, from which what comes hands these up.
record Leads (v : SealsView) (calls : List Call) : Type 0 where
  next : SealsView
  leaves : Leaves v next
  ups : List Up
  up : HandsUp next (came_in calls) ups
  same : map (λ (u : Up). u.payload) ups ≡ handed_up calls

leads : (s : Sealing) (calls : List Call) → Makes s calls → Leads s.seals calls
leads s [] makes = record { next = s.seals; leaves = leaves_all s.seals; ups = []; up = refl; same = refl }
leads s (Sending datagram ∷ calls) (turn, sends, makes) =
    let later = leads turn.sealing calls makes in
    record {
      next = later.next;
      leaves =
          leaves_both s.seals turn.sealing.seals later.next
          (send_leaves (sealed_host s.seals datagram.bytes) datagram s turn sends) later.leaves;
      ups = later.ups;
      up = later.up;
      same = later.same;
    }
leads s (Opening from came answer ∷ calls) (seals, turn, opens, replies, makes) =
    let later = leads turn.sealing calls makes in
    let left = leaves_both seals turn.sealing.seals later.next
    (reply_leaves answer from (record { seals = seals; kept = s.kept }) turn replies) later.leaves in
    let (ups, risen, same) = rises s.seals seals came answer from calls later.ups opens later.same in
    record {
      next = s.seals;
      leaves = leaves_all s.seals;
      ups = ups;
      up = (answer, seals, later.next, later.ups, opens, left.heard, later.up, risen);
      same = same;
    }

-- ---- what isn't under seal

same_clear : (v w : SealsView) (d : List ℕ) → KeepsKeys v w → IsClear w d → IsClear v d
same_clear v w d keeps clear = λ packets carried i packet inside.
    sym (same_in_clear v w keeps _) ∙ clear packets carried i packet inside

clear_of : (v w : SealsView) (d : List ℕ) → Opens v d opened.Plain w → IsClear v d
clear_of v w d (inl (other, inl plain, same)) = plain.1
clear_of v w d (inl (other, inr refused, same)) = absurd (let e = refused.0 in cc)
clear_of v w d (inr (inl refused)) = absurd (let e = refused.3 in cc)
clear_of v w d (inr (inr (p, h, payload, comes, is))) = absurd is

clear_then : (v before seals : SealsView) (came : List ℕ) (answer : Opened) (from : SocketAddr) (calls : List Call)
    → KeepsKeys v before → Opens before came answer seals → Every (IsClear v) (passed_up calls)
    → Every (IsClear v) (passed_up (Opening from came answer ∷ calls))
clear_then v before seals came opened.Plain from calls keeps opens rest =
    (same_clear v before came keeps (clear_of before seals came opens), rest)
clear_then v before seals came (opened.Payload count) from calls keeps opens rest = rest
clear_then v before seals came (opened.Hello host session) from calls keeps opens rest = rest
clear_then v before seals came (opened.Learned host) from calls keeps opens rest = rest
clear_then v before seals came (opened.Refused fault) from calls keeps opens rest = rest

-- all that goes up as it came, after calls that leave the keys
all_clear : (v : SealsView) (s : Sealing) (calls : List Call) → KeepsKeys v s.seals → Makes s calls
    → Every (IsClear v) (passed_up calls)
all_clear v s [] keeps makes = tt
all_clear v s (Sending datagram ∷ calls) keeps (turn, sends, makes) =
    all_clear v turn.sealing calls
    (keeps_both v s.seals turn.sealing.seals keeps
    (send_leaves (sealed_host s.seals datagram.bytes) datagram s turn sends).keys) makes
all_clear v s (Opening from came answer ∷ calls) keeps (seals, turn, opens, replies, makes) =
    let opened_keys = keeps_both v s.seals seals keeps (opened_keeps s.seals seals came answer opens) in
    let left = reply_leaves answer from (record { seals = seals; kept = s.kept }) turn replies in
    clear_then v s.seals seals came answer from calls keeps opens
    (all_clear v turn.sealing calls (keeps_both v seals turn.sealing.seals opened_keys left.keys) makes)

-- ---- the law

right_tag_before : (v w : SealsView) (u : Up) (d : List ℕ) → KeepsKeys v w → HasRightTag w u d → HasRightTag v u d
right_tag_before v w u d keeps (key, known, seals) = (
  key,
  sym (keeps.keys u.from) ∙ known,
  subst (λ (h : Head). Seals key h u.payload d)
      (ap₂ (λ (to peer : ℕ). record { to = to; from = u.from; session = u.session; peer = peer; counter = u.counter })
      keeps.me keeps.session) seals,
)

pub hands_up_once : HandsUpOnce
hands_up_once sealed s calls unheard makes premise =
    let leading = leads s calls makes in
    let once = safe sealed leading.next (came_in calls) leading.ups (leading.leaves.unheard unheard)
    (every_more (λ (d : List ℕ). (u : Up) → HasRightTag s.seals u d → Contains sealed u)
    (λ (d : List ℕ). (u : Up) → HasRightTag leading.next u d → Contains sealed u) (came_in calls)
    (λ d is u right. is u (right_tag_before s.seals leading.next u d leading.leaves.keys right)) premise) leading.up in (
      (leading.ups, leading.same, once.0, once.1),
      all_clear s.seals s calls (keeps_all s.seals) makes,
    )
