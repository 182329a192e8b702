-- What becomes of a datagram.
use Rattle.std.proofs.Common.{◌≡◌, ◌+◌, ◌≢◌, ◌↔◌, ℕ, ◌<◌, ◌≤◌, Bool, true, false, List, [], ◌∷◌, length, get_or, cond, take, drop, refl, arith, ap, ◌∙◌, sym, nat_lt, inl, inr, Some, None, slice_get, slice_set}
use Rattle.std.proofs.lemmas.Bool.Decides.{nat_tests}
use Rattle.chaos_seal.specs.Law.{IsOpened}
use Rattle.chaos_seal.specs.Opening.{Answers, Comes, IsForMe, IsTimely, Opens, Refuses, after, from_in, heard, in_session}
use Rattle.chaos_seal.specs.Peers.{SealsView, peer_of}
use Rattle.chaos_seal.specs.Places.{ComesAt, Gives, Greets, HearsAt, LateAt}
use Rattle.chaos_seal.specs.Seal.{Fits, payload_of}
use Rattle.chaos_seal.specs.Window.{IsFresh, nothing_heard}
use Rattle.chaos_seal.specs.declared.fault.SealFault.{SealFault}
use Rattle.chaos_seal.specs.declared.fault.SealFault.TheVariants as faults
use Rattle.chaos_seal.specs.declared.form.Head.{Head}
use Rattle.chaos_seal.specs.declared.opened.Opened.{Opened}
use Rattle.chaos_seal.specs.declared.opened.Opened.TheVariants as opened
use Rattle.chaos_seal.specs.declared.peer.SealPeer.{SealPeer}
use Rattle.std.specs.Int.{w16, to_be_bytes}
use Rattle.chaos_seal.proofs.Parts.{begins, from_is, long, opens_once, payload_is, tag_is, to_is, version_is, word_in}
use Rattle.chaos_seal.proofs.Windows.{first_fresh}
use Rattle.chaos_seal.proofs.Table.{changed_at, its_address, within}

pub newer : (p : SealPeer) (s : ℕ) → p.session < s → in_session p s ≡ record p { session = s; window = nothing_heard }
newer p s lt =
    let test : nat_lt p.session s ≡ true = grind (arith, nat_tests) in
    rw test refl

pub older : (p : SealPeer) (s : ℕ) → s ≤ p.session → in_session p s ≡ p
older p s le =
    let test : nat_lt p.session s ≡ false = grind (arith, nat_tests) in
    rw test refl

pub fresh_in_newer : (p : SealPeer) (s c : ℕ) → p.session < s → (nat_lt 0 c ≡ true) ↔ IsFresh (in_session p s).window c
fresh_in_newer p s c lt =
    rw (newer p s lt) (
      λ test. (first_fresh c).0 (grind (arith, nat_tests)),
      λ fresh. let some : 0 < c = (first_fresh c).1 fresh in grind (arith, nat_tests),
    )

-- ---- the parts of a datagram of version 3

pub for_me : (v : SealsView) (d : List ℕ) (h : Head) → 48 ≤ length d → get_or d 3 0 ≡ 0 → Fits h
    → to_be_bytes w16 h.to ≡ take 2 (drop 4 d) → h.to ≡ v.me → IsForMe v d
for_me v d h long zero fits stands me = ((long, zero), word_in h.to 4 d fits.to stands ∙ me)

pub sent_by : (d : List ℕ) (h : Head) → Fits h → to_be_bytes w16 h.from ≡ take 2 (drop 6 d) → from_in d ≡ h.from
sent_by d h fits stands = word_in h.from 6 d fits.from stands

-- A datagram that a host with a key sealed for this one has no fault.
pub no_fault : (v : SealsView) (d : List ℕ) (p : SealPeer) (h : Head) (payload : List ℕ) (fault : SealFault)
    → Comes v d p h payload → Refuses v d fault → ⊥
no_fault v d p h payload faults.Short c short = omega (arith, short, long c.sealed)
no_fault v d p h payload faults.BadVersion c bad = bad.1 (version_is c.sealed)
no_fault v d p h payload faults.OtherHost c other = other.1 (to_is c.sealed ∙ c.me)
no_fault v d p h payload faults.NoKey c none =
    let found : peer_of h.from v.peers ≡ None = ap (λ a. peer_of a v.peers) (sym (from_is c.sealed)) ∙ none.1 in
    let known = c.known in
    cc
no_fault v d p h payload faults.BadTag c (to_me, (q, found, wrong)) =
    let same : Some p ≡ Some q = sym c.known ∙ ap (λ a. peer_of a v.peers) (sym (from_is c.sealed)) ∙ found in
    let is : p ≡ q = cc in
    wrong (rw is at (tag_is c.sealed))
no_fault v d p h payload faults.Stale c never = never
no_fault v d p h payload faults.OldSession c never = never
no_fault v d p h payload faults.OldCounter c never = never
no_fault v d p h payload faults.ForeignPacket c never = never
no_fault v d p h payload faults.Unsealed c never = never

same_peer : (v : SealsView) (p q : SealPeer) (h k : Head) → h ≡ k → peer_of h.from v.peers ≡ Some p → peer_of k.from v.peers ≡ Some q
    → q ≡ p
same_peer v p q h k e one other =
    let both : Some q ≡ Some p = sym other ∙ ap (λ (x : Head). peer_of x.from v.peers) (sym e) ∙ one in
    cc

pub opened_so : IsOpened
opened_so v w d p h payload answer c (inl plain) = absurd (plain.0 (begins c.sealed))
opened_so v w d p h payload answer c (inr (inl (is, fault, refuses, rest, e))) = absurd (no_fault v d p h payload fault c refuses)
opened_so v w d p h payload answer c (inr (inr (q, k, other, came, answers))) =
    let once = opens_once p.key q.key h k payload other d c.sealed came.sealed in
    let peer : q ≡ p = same_peer v p q h k once.0 c.known came.known in
    rw (once.0, once.1, ← peer) answers

-- ---- by the places of the table

-- a host heard has the same address
pub heard_address : (p : SealPeer) (s c : ℕ) → (heard p s c).address ≡ p.address
heard_address p s c = by (nat_lt p.session s)
  where
    by : (b : Bool) → (cond b (record p { session = s; window = nothing_heard }) p).address ≡ p.address
    by true = refl
    by false = refl

same_there : (ps : List SealPeer) (i : ℕ) (p q : SealPeer) → slice_get ps i ≡ Some p → slice_get ps i ≡ Some q → p ≡ q
same_there ps i p q one other = let both : Some p ≡ Some q = sym one ∙ other in cc

pub after_at : (v w : SealsView) (d : List ℕ) (place : ℕ) (h : Head) (at : ComesAt v d place h) → HearsAt v place h.session h.counter w
    → h.peer ≡ v.session → IsTimely v at.peer h × (w ≡ after v at.peer h)
after_at v w d place h at hears mine =
    let p = at.peer in
    let same : hears.peer ≡ p = same_there v.peers place hears.peer p hears.there at.there in
    let address : (heard p h.session h.counter).address ≡ h.from =
    heard_address p h.session h.counter ∙ its_address h.from v.peers p at.comes.known in (
      (mine, rw same at hears.newest, rw same at hears.fresh),
      hears.next ∙ ap (λ (q : SealPeer). record v { peers = slice_set v.peers place (heard q h.session h.counter) }) same
          ∙ ap (λ l. record v { peers = l })
          (changed_at h.from (heard p h.session h.counter) v.peers place address at.first (within h.from v.peers place at.first)),
    )

pub given : (v w : SealsView) (d : List ℕ) (p : SealPeer) (h : Head) (payload : List ℕ) (answer : Opened) → Comes v d p h payload
    → IsTimely v p h × (w ≡ after v p h) → Gives h payload answer → Opens v d answer w
given v w d p h payload answer c (timely, e) (inl (empty, is)) =
    rw is (inr (inr (p, h, payload, c, (timely, empty, refl, e))))
given v w d p h payload answer c (timely, e) (inr (inl (some, all, is))) =
    rw is (inr (inr (p, h, payload, c, (timely, some, all, refl, e))))
given v w d p h payload answer c (timely, e) (inr (inr (some, foreign, is))) =
    rw is (inr (inr (p, h, payload, c, (timely, some, foreign, e))))

pub greeted : (v w : SealsView) (d : List ℕ) (p : SealPeer) (h : Head) (payload : List ℕ) (answer : Opened) → Comes v d p h payload
    → h.peer ≢ v.session → Greets h payload answer → w ≡ v → Opens v d answer w
greeted v w d p h payload answer c other (inl (empty, is)) same =
    rw is (inr (inr (p, h, payload, c, (other, empty, same))))
greeted v w d p h payload answer c other (inr (some, is)) same =
    rw is (inr (inr (p, h, payload, c, (other, some, refl, refl, same))))

pub late : (v w : SealsView) (d : List ℕ) (place : ℕ) (h : Head) (fault : SealFault) → ComesAt v d place h → h.peer ≡ v.session
    → LateAt v place h.session h.counter fault → w ≡ v → Opens v d (opened.Refused fault) w
late v w d place h faults.OldSession at mine (q, there, is) same =
    let p = same_there v.peers place q at.peer there at.there in
    inr (inr (at.peer, h, payload_of d, at.comes, (mine, rw p at is, same)))
late v w d place h faults.OldCounter at mine (q, there, is) same =
    let p = same_there v.peers place q at.peer there at.there in
    inr (inr (at.peer, h, payload_of d, at.comes, (mine, rw p at is, same)))
late v w d place h faults.Short at mine (q, there, never) same = absurd never
late v w d place h faults.BadVersion at mine (q, there, never) same = absurd never
late v w d place h faults.OtherHost at mine (q, there, never) same = absurd never
late v w d place h faults.NoKey at mine (q, there, never) same = absurd never
late v w d place h faults.BadTag at mine (q, there, never) same = absurd never
late v w d place h faults.Stale at mine (q, there, never) same = absurd never
late v w d place h faults.ForeignPacket at mine (q, there, never) same = absurd never
late v w d place h faults.Unsealed at mine (q, there, never) same = absurd never

-- ---- what follows from an answer

no_payload_plain : (count : ℕ) → opened.Payload count ≡ opened.Plain → ⊥
no_payload_plain count e = cc

no_payload_refused : (count : ℕ) (fault : SealFault) → opened.Payload count ≡ opened.Refused fault → ⊥
no_payload_refused count fault e = cc

-- A payload goes up only of what a host with a key sealed.
pub comes_up : (v w : SealsView) (d : List ℕ) (count : ℕ) → Opens v d (opened.Payload count) w
    → (p : SealPeer) × (h : Head) × (payload : List ℕ) × Comes v d p h payload × Answers v p h payload (opened.Payload count) w
comes_up v w d count (inl (not, inl (is, clear), e)) = absurd (no_payload_plain count is)
comes_up v w d count (inl (not, inr (is, clear), e)) = absurd (no_payload_refused count faults.Unsealed is)
comes_up v w d count (inr (inl (is, fault, refuses, same, e))) = absurd (no_payload_refused count fault same)
comes_up v w d count (inr (inr sealed)) = sealed

pub payload_long : (v w : SealsView) (d : List ℕ) (count : ℕ) → Opens v d (opened.Payload count) w
    → (length d ≡ 48 + count) × (count ≡ length (payload_of d))
payload_long v w d count opens =
    let (p, h, payload, c, a) = comes_up v w d count opens in
    (omega (arith, long c.sealed, a.3), a.3 ∙ ap length (sym (payload_is c.sealed)))

no_hello_plain : (to session : ℕ) → opened.Hello to session ≡ opened.Plain → ⊥
no_hello_plain to session e = cc

no_hello_refused : (to session : ℕ) (fault : SealFault) → opened.Hello to session ≡ opened.Refused fault → ⊥
no_hello_refused to session fault e = cc

some_length : (l : List ℕ) → l ≢ [] → 0 < length l
some_length [] some = absurd (some refl)
some_length (x ∷ xs) some = omega arith

-- What asks for a hello is longer than a hello.
pub hello_long : (v w : SealsView) (d : List ℕ) (to session : ℕ) → Opens v d (opened.Hello to session) w → 48 < length d
hello_long v w d to session (inl (not, inl (is, clear), e)) = absurd (no_hello_plain to session is)
hello_long v w d to session (inl (not, inr (is, clear), e)) = absurd (no_hello_refused to session faults.Unsealed is)
hello_long v w d to session (inr (inl (is, fault, refuses, same, e))) = absurd (no_hello_refused to session fault same)
hello_long v w d to session (inr (inr (p, h, payload, c, a))) = omega (arith, long c.sealed, some_length payload a.1)
