-- What is sealed for a host, by its place in the table.
use Rattle.std.proofs.Common.{◌≡◌, ◌↔◌, ℕ, Bool, ◌+◌, ◌<◌, ◌≤◌, List, length, refl, ap, ◌∙◌, sym, Option, Some, None, IfNone, IfSome, IsSome, Result, Ok, Err, IfErr, OnOk, get_or}
use Rattle.std.specs.Prelude.{position, slice_get, slice_set}
use Rattle.std.specs.List.{refill}
use Rattle.chaos_seal.specs.Peers.{Keeps, SealsView, peer_of}
use Rattle.chaos_seal.specs.Opening.{heard, in_session}
use Rattle.chaos_seal.specs.Places.{CanSealAt, HearsAt, SealsAt}
use Rattle.chaos_seal.specs.Window.{IsFresh}
use Rattle.chaos_seal.specs.Seal.{Seals, sealed_form}
use Rattle.chaos_seal.specs.Sending.{CanSeal, SealsFor, next_head, sent_once}
use Rattle.chaos_seal.specs.declared.limits.TheConstants.{MAX_PAYLOAD}
use Rattle.chaos_seal.specs.declared.peer.SealPeer.{SealPeer}
use Rattle.chaos_seal.proofs.Table.{at_place, changed_at, changed_view, has, its_address, kept, kept_all, none_found, read_there, there, within}

pub if_both : (o : Option ℕ) (P Q R : ℕ → Type 0) → ((n : ℕ) → P n → Q n → R n) → IfSome o P → IfSome o Q → IfSome o R
if_both None P Q R f p q = tt
if_both (Some n) P Q R f p q = f n p q

pub if_one : (o : Option ℕ) (P R : ℕ → Type 0) → ((n : ℕ) → P n → R n) → IfSome o P → IfSome o R
if_one None P R f p = tt
if_one (Some n) P R f p = f n p

pub on_both : {T E : Type 0} (r : Result T E) (P Q R : Type 0) → (P → Q → R) → OnOk r P → OnOk r Q → OnOk r R
on_both (Ok x) P Q R f p q = f p q
on_both (Err e) P Q R f p q = tt

pub if_err : {T E : Type 0} (r : Result T E) (P R : E → Type 0) → ((e : E) → P e → R e) → IfErr r P → IfErr r R
if_err (Ok x) P R f p = tt
if_err (Err e) P R f p = f e p

pub on_ok : {T E : Type 0} (r : Result T E) (P : Type 0) → ((e : E) → r ≡ Err e → ⊥) → OnOk r P → P
on_ok (Ok x) P no_error p = p
on_ok (Err e) P no_error p = absurd (no_error e refl)

pub one_host : (o : Option SealPeer) (p q : SealPeer) → o ≡ Some p → o ≡ Some q → p ≡ q
one_host o p q one other = let both : Some p ≡ Some q = sym one ∙ other in cc

module _ (v : SealsView) (to place : ℕ) (first : position (has to) v.peers ≡ Some place) where
  pub sealed_for : (w : SealsView) (named : ℕ) (naming : SealPeer → ℕ) (payload bs : List ℕ)
      → ((p : SealPeer) → slice_get v.peers place ≡ Some p → named ≡ naming p) → SealsAt v place named payload bs w
      → SealsFor v to naming payload bs w
  sealed_for w named naming payload bs names s =
      let known : peer_of to v.peers ≡ Some s.peer = at_place to v.peers place first ∙ s.there in
      let address : s.peer.address ≡ to = its_address to v.peers s.peer known in
      let head : next_head v s.peer s.peer.address named ≡ next_head v s.peer to (naming s.peer) =
      λ j. next_head v s.peer (address j) (names s.peer s.there j) in
      record {
        peer = s.peer;
        known = known;
        sealed = rw head at s.sealed;
        next =
            s.next
            ∙ ap (λ l. record v { peers = l })
            (changed_at to (sent_once s.peer) v.peers place address first (within to v.peers place first));
      }

  pub can_seal : (payload : List ℕ) → CanSealAt place v payload ↔ (CanSeal to v × (length payload ≤ MAX_PAYLOAD))
  can_seal payload = (
    λ can. ((can.0, at_place to v.peers place first ∙ can.1, can.2), can.3),
    λ can.
        let (p, at) = there v.peers place (within to v.peers place first) in
        let same : can.0.0 ≡ p = one_host (peer_of to v.peers) can.0.0 p can.0.1 (at_place to v.peers place first ∙ at) in
        (p, at, rw same at can.0.2, can.1),
  )

pub exact_bytes : (v w : SealsView) (to : ℕ) (naming : SealPeer → ℕ) (payload bs : List ℕ) → SealsFor v to naming payload bs w
    → (p : SealPeer) → peer_of to v.peers ≡ Some p → bs ≡ sealed_form p.key (next_head v p to (naming p)) payload
exact_bytes v w to naming payload bs s p known =
    let same : s.peer ≡ p = one_host (peer_of to v.peers) s.peer p s.known known in
    s.sealed.bytes ∙ ap (λ (q : SealPeer). sealed_form q.key (next_head v q to (naming q)) payload) same

pub keeps_so : (v w : SealsView) (to : ℕ) (naming : SealPeer → ℕ) (payload : List ℕ) (bs : ℕ → List ℕ) (o : Option ℕ) (X : Type 0)
    → IfSome o (λ n. SealsFor v to naming payload (bs n) w) → IfNone o ((w ≡ v) × X) → Keeps v w
keeps_so v w to naming payload bs None X sealed none = rw none.0 (kept_all v)
keeps_so v w to naming payload bs (Some n) X sealed none =
    let address : sealed.peer.address ≡ to = its_address to v.peers sealed.peer sealed.known in
    rw sealed.next
    (kept v (sent_once sealed.peer) sealed.peer (ap (λ a. peer_of a v.peers) address ∙ sealed.known) refl)

-- without a place nothing is sealed
pub cannot : (v : SealsView) (to : ℕ) → position (has to) v.peers ≡ None → CanSeal to v → ⊥
cannot v to none (p, known, left) = let no = none_found to v.peers none in cc

pub no_some : (o : Option ℕ) → o ≡ None → IsSome o → ⊥
no_some None e is = cc
no_some (Some n) e is = cc

-- ---- one host of the table changed in place

module _ (v : SealsView) (me session : ℕ) (closed : Bool) (items now : List SealPeer) (n : ℕ) (counted : n ≡ length items) (place : ℕ) (r q : SealPeer)
    (view : ◌≡◌ {A = SealsView} (record { me = me; session = session; closed = closed; peers = items }) v) (is : now ≡ items)
    (inside : place < length v.peers) (read : r ≡ get_or now place r) where
  abbrev p : SealPeer
  p = get_or now place r

  abbrev changed : SealsView
  changed = record { me = me; session = session; closed = closed; peers = refill n items (slice_set now place q) }

  pub there_now : slice_get v.peers place ≡ Some p
  there_now =
      read_there v.peers place r inside
      (read ∙ ap (λ l. get_or l place r) (is ∙ ap (λ (u : SealsView). u.peers) view))
      ∙ ap Some read

  pub sealed_at : (named : ℕ) (payload bs : List ℕ)
      → Seals p.key (record { to = p.address; from = me; session = session; peer = named; counter = p.sent + 1 }) payload bs
      → q ≡ sent_once p → SealsAt v place named payload bs changed
  sealed_at named payload bs sealed next =
      let head : record { to = p.address; from = me; session = session; peer = named; counter = p.sent + 1 }
      ≡ next_head v p p.address named =
      λ j. record { to = p.address; from = (view j).me; session = (view j).session; peer = named; counter = p.sent + 1 } in
      record {
        peer = p;
        there = there_now;
        sealed = rw head at sealed;
        next = changed_view v me session closed items now n counted place q (sent_once p) view is next;
      }

  pub heard_at : (s c : ℕ) → (p.session ≤ s) × IsFresh (in_session p s).window c → q ≡ heard p s c → HearsAt v place s c changed
  heard_at s c timely next = record {
    peer = p;
    there = there_now;
    newest = timely.0;
    fresh = timely.1;
    next = changed_view v me session closed items now n counted place q (heard p s c) view is next;
  }
