-- What is handed up is safe.
use Rattle.std.proofs.Common.{◌≡◌, ◌≢◌, ℕ, ◌+◌, ◌<◌, ◌≤◌, ◌==◌, true, false, List, [], ◌∷◌, length, refl, arith, ap, ◌∙◌, sym, inl, inr, All, Contains, Option, Some, None, option_map}
use Rattle.std.proofs.lemmas.Bool.{cases_lt, cases_eq}
use Rattle.std.proofs.lemmas.List.Elements.{All-head, All-tail}
use Rattle.std.proofs.lemmas.Bool.Decides.{nat_tests}
use Rattle.chaos_seal.specs.Window.{IsFresh, hear, nothing_heard}
use Rattle.chaos_seal.specs.Peers.{Keeps, SealsView, heard_of, peer_of}
use Rattle.chaos_seal.specs.Opening.{IsTimely, Opens, after, heard, in_session}
use Rattle.chaos_seal.specs.Law.{Every, Follows, HandsUp, HasRightTag, IsSafe, IsUnheard, Pairwise, Rises, Up, head_for, key_of}
use Rattle.chaos_seal.specs.declared.form.Head.{Head}
use Rattle.chaos_seal.specs.declared.opened.Opened.{Opened}
use Rattle.chaos_seal.specs.declared.opened.Opened.TheVariants as opened
use Rattle.chaos_seal.specs.declared.peer.SealPeer.{SealPeer}
use Rattle.chaos_seal.proofs.Answered.{comes_up, newer, older}
use Rattle.chaos_seal.proofs.Changed.{changes, found_else, found_here, sealing_kept}
use Rattle.chaos_seal.proofs.Parts.{opens_once}
use Rattle.chaos_seal.proofs.Windows.{IsWhole, apart, fresh_before, whole_heard, whole_nothing}

pub every_more : {X : Type 0} (P Q : X → Type 0) (xs : List X) → ((x : X) → P x → Q x) → Every P xs → Every Q xs
every_more P Q [] f ps = tt
every_more P Q (x ∷ xs) f ps = (f x ps.0, every_more P Q xs f ps.1)

-- ---- one host

-- in its session, where that isn't older
session_then : (p : SealPeer) (s : ℕ) → p.session ≤ s → (in_session p s).session ≡ s
session_then p s le =
    elim (cases_lt p.session s) [
      | inl lt ↦ rw (newer p s lt) refl
      | inr ge ↦ rw (older p s ge) (omega (arith, ge, le))
    ]

whole_in : (p : SealPeer) (s : ℕ) → IsWhole p.window → IsWhole (in_session p s).window
whole_in p s whole =
    elim (cases_lt p.session s) [
      | inl lt ↦ rw (newer p s lt) whole_nothing
      | inr ge ↦ rw (older p s ge) whole
    ]

-- A counter in a session lies beyond what was heard of a host.
abbrev BeyondIn : SealPeer → ℕ → ℕ → Type 0
BeyondIn p s c = (p.session ≤ s) × (p.session ≡ s → IsFresh p.window c)

-- what lies beyond a host once a counter was heard lay beyond it before
beyond_before : (p : SealPeer) (s c t d : ℕ) → IsWhole p.window → p.session ≤ s → IsFresh (in_session p s).window c
    → BeyondIn (heard p s c) t d → BeyondIn p t d
beyond_before p s c t d whole le fresh beyond =
    let now = session_then p s le in (
      omega (arith, now, le, beyond.0),
      λ e.
          let same : in_session p s ≡ p = older p s (omega (arith, now, e, beyond.0)) in
          let there : (in_session p s).session ≡ t = omega (arith, now, e, beyond.0, le) in
          let later : IsFresh (hear c p.window) d = rw same at (beyond.1 there) in
          fresh_before p.window c d whole (rw same at fresh) later,
    )

-- and is another counter, fewer than 256 below
apart_from : (p : SealPeer) (s c t d : ℕ) → IsWhole p.window → p.session ≤ s → BeyondIn (heard p s c) t d
    → (s ≤ t) × (s ≡ t → (c ≢ d) × (c < d + 256))
apart_from p s c t d whole le beyond =
    let now = session_then p s le in (
      omega (arith, now, beyond.0),
      λ e. apart (in_session p s).window c d (whole_in p s whole) (beyond.1 (now ∙ e)),
    )

-- ---- all hosts

abbrev Beyond : SealsView → Up → Type 0
Beyond v u = (p : SealPeer) → peer_of u.from v.peers ≡ Some p → BeyondIn p u.session u.counter

abbrev Whole : SealsView → Type 0
Whole v = (a : ℕ) (p : SealPeer) → peer_of a v.peers ≡ Some p → IsWhole p.window

-- The address, the session and the keys are the same.
pub record Same (v w : SealsView) : Type 0 where
  pub me : w.me ≡ v.me
  pub session : w.session ≡ v.session
  pub keys : (a : ℕ) → key_of a w ≡ key_of a v

same_self : (v w : SealsView) → w ≡ v → Same v w
same_self v w e = rw e (record { me = refl; session = refl; keys = λ a. refl })

same_some : (p q : SealPeer) → ◌≡◌ {A = Option SealPeer} (Some p) (Some q) → p ≡ q
same_some p q e = cc

heard_key : (p : SealPeer) (s c : ℕ) → (heard p s c).key ≡ p.key
heard_key p s c = ap (λ (q : SealPeer). q.key) (sealing_kept p s c)

-- ---- a step that hears a counter

module _ (v : SealsView) (p : SealPeer) (h : Head) (known : peer_of h.from v.peers ≡ Some p) where
  after_same : Same v (after v p h)
  after_same = record {
    me = refl;
    session = refl;
    keys = λ a.
        elim (cases_eq h.from a) [
          | inl e ↦
              let found : peer_of a (after v p h).peers ≡ Some (heard p h.session h.counter) = rw e at (found_here v p h known) in
              let was : peer_of a v.peers ≡ Some p = rw e at known in
              ap (option_map (λ (q : SealPeer). q.key)) found ∙ ap Some (heard_key p h.session h.counter)
              ∙ sym (ap (option_map (λ (q : SealPeer). q.key)) was)
          | inr ne ↦ ap (option_map (λ (q : SealPeer). q.key)) (found_else v p h known a ne)
        ];
  }

  after_whole : Whole v → Whole (after v p h)
  after_whole whole = λ a q found.
      elim (cases_eq h.from a) [
        | inl e ↦
            let is : peer_of a (after v p h).peers ≡ Some (heard p h.session h.counter) = rw e at (found_here v p h known) in
            let same : heard p h.session h.counter ≡ q = same_some (heard p h.session h.counter) q (sym is ∙ found) in
            rw (← same) (whole_heard (in_session p h.session).window h.counter (whole_in p h.session (whole h.from p known)))
        | inr ne ↦ whole a q (sym (found_else v p h known a ne) ∙ found)
      ]

  after_beyond : (u : Up) → Whole v → IsTimely v p h → Beyond (after v p h) u → Beyond v u
  after_beyond u whole timely beyond = λ q found.
      elim (cases_eq h.from u.from) [
        | inl e ↦
            let was : peer_of u.from v.peers ≡ Some p = rw e at known in
            let is : peer_of u.from (after v p h).peers ≡ Some (heard p h.session h.counter) = rw e at (found_here v p h known) in
            let same : p ≡ q = same_some p q (sym was ∙ found) in
            rw (← same)
            (beyond_before p h.session h.counter u.session u.counter (whole h.from p known) timely.1 timely.2 (beyond (heard p h.session h.counter) is))
        | inr ne ↦ beyond q (found_else v p h known u.from ne ∙ found)
      ]

-- ---- one datagram

abbrev Stays : SealsView → SealsView → Type 0
Stays v w = Same v w × (Whole v → Whole w × ((u : Up) → Beyond w u → Beyond v u))

stays_self : (v w : SealsView) → w ≡ v → Stays v w
stays_self v w e = (same_self v w e, λ whole. (rw e whole, λ u b. rw e at b))

step_stays : (v w : SealsView) (d : List ℕ) (answer : Opened) → Opens v d answer w → Stays v w
step_stays v w d answer opens =
    elim (changes v w d answer opens) [
      | inl same ↦ stays_self v w same
      | inr (p, h, known, from, timely, e) ↦
          rw e (
            after_same v p h known,
            λ whole. (after_whole v p h known whole, λ u b. after_beyond v p h known u whole timely b),
          )
    ]

-- ---- what sealing leaves

kept_peer : (o : Option SealPeer) (p q : SealPeer) → o ≡ Some q → option_map heard_of o ≡ Some (heard_of p) → heard_of q ≡ heard_of p
kept_peer o p q e heard =
    let both : ◌≡◌ {A = Option SealPeer} (Some (heard_of q)) (Some (heard_of p)) = ap (option_map heard_of) (sym e) ∙ heard in
    same_some (heard_of q) (heard_of p) both

key_of_heard : (o : Option SealPeer) → option_map (λ (q : SealPeer). q.key) o ≡ option_map (λ (q : SealPeer). q.key) (option_map heard_of o)
key_of_heard None = refl
key_of_heard (Some q) = refl

some_before : (o : Option SealPeer) (q : SealPeer) → option_map heard_of o ≡ Some (heard_of q)
    → (p : SealPeer) × (o ≡ Some p) × (heard_of p ≡ heard_of q)
some_before None q e = absurd (cc)
some_before (Some p) q e = (p, refl, same_some (heard_of p) (heard_of q) e)

keeps_stays : (v w : SealsView) → Keeps v w → Stays v w
keeps_stays v w k = (
  record {
    me = k.me;
    session = k.session;
    keys = λ a.
        key_of_heard (peer_of a w.peers) ∙ ap (option_map (λ (q : SealPeer). q.key)) (k.heard a)
        ∙ sym (key_of_heard (peer_of a v.peers));
  },
  λ whole. (
    λ a q found.
        let (p, was, same) = some_before (peer_of a v.peers) q (sym (k.heard a) ∙ ap (option_map heard_of) found) in
        ap (λ (r : SealPeer). length r.window.slots) (sym same) ∙ whole a p was,
    λ u beyond p found.
        let (q, is, same) = some_before (peer_of u.from w.peers) p (k.heard u.from ∙ ap (option_map heard_of) found) in
        let session : q.session ≡ p.session = ap (λ (r : SealPeer). r.session) same in
        let window : q.window ≡ p.window = ap (λ (r : SealPeer). r.window) same in
        let b = beyond q is in
        (rw (← session) b.0, λ e. rw (← window) (b.1 (session ∙ e))),
  ),
)

-- ---- what goes up

-- What goes up under seal is timely, and its counter is heard then.
abbrev Rose : SealsView → Up → SealsView → Type 0
Rose v u w = (p : SealPeer) × (h : Head) × (peer_of h.from v.peers ≡ Some p) × (h ≡ head_for v u) × IsTimely v p h × (w ≡ after v p h)

step_up : (v w : SealsView) (d : List ℕ) (count : ℕ) (u : Up) → Opens v d (opened.Payload count) w → HasRightTag v u d → Rose v u w
step_up v w d count u opens (key, known, seals) =
    let (p, h, payload, c, a) = comes_up v w d count opens in
    let once = opens_once p.key key h (head_for v u) payload u.payload d c.sealed seals in
    (p, h, c.known, once.0, a.0, a.4)

rose_beyond : (v w : SealsView) (u : Up) → Rose v u w → Beyond v u
rose_beyond v w u (p, h, known, is, timely, e) = λ q found.
    let from : h.from ≡ u.from = ap (λ (x : Head). x.from) is in
    let session : h.session ≡ u.session = ap (λ (x : Head). x.session) is in
    let counter : h.counter ≡ u.counter = ap (λ (x : Head). x.counter) is in
    let same : p ≡ q = same_some p q (sym known ∙ ap (λ a. peer_of a v.peers) from ∙ found) in
    rw (← same) (
      omega (arith, session, timely.1),
      λ eq.
          let there : in_session p h.session ≡ p = older p h.session (omega (arith, session, eq)) in
          let fresh : IsFresh p.window h.counter = rw there at timely.2 in
          rw (← counter) fresh,
    )

rose_follows : (v w : SealsView) (u t : Up) → Whole v → Rose v u w → Beyond w t → Follows u t
rose_follows v w u t whole (p, h, known, is, timely, e) beyond = λ from_same.
    let from : h.from ≡ u.from = ap (λ (x : Head). x.from) is in
    let session : h.session ≡ u.session = ap (λ (x : Head). x.session) is in
    let counter : h.counter ≡ u.counter = ap (λ (x : Head). x.counter) is in
    let found : peer_of t.from w.peers ≡ Some (heard p h.session h.counter) =
    ap (λ (x : SealsView). peer_of t.from x.peers) e ∙ ap (λ a. peer_of a (after v p h).peers) (sym (from ∙ from_same))
    ∙ found_here v p h known in
    let apart = apart_from p h.session h.counter t.session t.counter (whole h.from p known) timely.1
    (beyond (heard p h.session h.counter) found) in
    rw (← session, ← counter) apart

-- ---- all of them

right_tag_back : (v w : SealsView) (u : Up) (d : List ℕ) → Same v w → HasRightTag w u d → HasRightTag v u d
right_tag_back v w u d s (key, known, seals) =
    let me = s.me in
    let session = s.session in
    (key, sym (s.keys u.from) ∙ known, rw (me, session) at seals)

abbrev SafeUps : List Up → SealsView → List Up → Type 0
SafeUps sealed v ups = Every (λ u. Contains sealed u) ups × Pairwise Follows ups × Every (Beyond v) ups

quiet : (sealed : List Up) (v w : SealsView) (ups rest : List Up) → Whole v → Stays v w → SafeUps sealed w rest → ups ≡ rest
    → SafeUps sealed v ups
quiet sealed v w ups rest whole stays ih same =
    rw same (ih.0, ih.1, every_more (Beyond w) (Beyond v) rest (stays.1 whole).1 ih.2)

rise : (sealed : List Up) (v w : SealsView) (d : List ℕ) (count : ℕ) (u : Up) (ups rest : List Up) → Whole v
    → ((u : Up) → HasRightTag v u d → Contains sealed u) → Opens v d (opened.Payload count) w → HasRightTag v u d
    → SafeUps sealed w rest → ups ≡ u ∷ rest → SafeUps sealed v ups
rise sealed v w d count u ups rest whole premise step mine ih grown =
    let rose = step_up v w d count u step mine in
    let back = ((step_stays v w d (opened.Payload count) step).1 whole).1 in
    rw grown (
      (premise u mine, ih.0),
      (every_more (Beyond w) (Follows u) rest (λ t b. rose_follows v w u t whole rose b) ih.2, ih.1),
      (rose_beyond v w u rose, every_more (Beyond w) (Beyond v) rest back ih.2),
    )

one : (sealed : List Up) (v w : SealsView) (d : List ℕ) (answer : Opened) (ups rest : List Up) → Whole v
    → ((u : Up) → HasRightTag v u d → Contains sealed u) → Opens v d answer w → SafeUps sealed w rest → Rises v d answer ups rest
    → SafeUps sealed v ups
one sealed v w d (opened.Payload count) ups rest whole premise step ih (u, mine, grown) =
    rise sealed v w d count u ups rest whole premise step mine ih grown
one sealed v w d opened.Plain ups rest whole premise step ih rises =
    quiet sealed v w ups rest whole (step_stays v w d opened.Plain step) ih rises
one sealed v w d (opened.Hello to session) ups rest whole premise step ih rises =
    quiet sealed v w ups rest whole (step_stays v w d (opened.Hello to session) step) ih rises
one sealed v w d (opened.Learned from) ups rest whole premise step ih rises =
    quiet sealed v w ups rest whole (step_stays v w d (opened.Learned from) step) ih rises
one sealed v w d (opened.Refused fault) ups rest whole premise step ih rises =
    quiet sealed v w ups rest whole (step_stays v w d (opened.Refused fault) step) ih rises

abbrev Premise : List Up → SealsView → List (List ℕ) → Type 0
Premise sealed v ds = Every (λ d. (u : Up) → HasRightTag v u d → Contains sealed u) ds

premise_later : (sealed : List Up) (v w : SealsView) (ds : List (List ℕ)) → Same v w → Premise sealed v ds → Premise sealed w ds
premise_later sealed v w ds s premise =
    every_more (λ d. (u : Up) → HasRightTag v u d → Contains sealed u) (λ d. (u : Up) → HasRightTag w u d → Contains sealed u) ds
    (λ d p u mine. p u (right_tag_back v w u d s mine)) premise

safe_from : (sealed : List Up) (v : SealsView) (ds : List (List ℕ)) (ups : List Up) → Whole v → Premise sealed v ds
    → HandsUp v ds ups → SafeUps sealed v ups
safe_from sealed v [] ups whole premise none = rw none (tt, tt, tt)
safe_from sealed v (d ∷ ds) ups whole premise (answer, w, next, rest, step, keeps, runs, rises) =
    let stays = step_stays v w d answer step in
    let sealing = keeps_stays w next keeps in
    let whole_w = (stays.1 whole).0 in
    let later = premise_later sealed w next ds sealing.0 (premise_later sealed v w ds stays.0 premise.1) in
    let ih = safe_from sealed next ds rest ((sealing.1 whole_w).0) later runs in
    let before = quiet sealed w next rest rest whole_w sealing ih refl in
    one sealed v w d answer ups rest whole premise.0 step before rises

-- ---- a host that has heard nothing

find_all : (P : SealPeer → Type 0) (a : ℕ) (ps : List SealPeer) (p : SealPeer) → All P ps → peer_of a ps ≡ Some p → P p
find_all P a [] p all found = absurd (cc)
find_all P a (x ∷ xs) p all found =
    elim (cases_eq x.address a) [
      | inl e ↦
          let test : (x.address == a) ≡ true = grind (arith, nat_tests) in
          let same : x ≡ p = same_some x p (rw test at found) in
          rw (← same) (All-head P x xs all)
      | inr ne ↦
          let test : (x.address == a) ≡ false = grind (arith, nat_tests) in
          find_all P a xs p (All-tail P x xs all) (rw test at found)
    ]

unheard_whole : (v : SealsView) → IsUnheard v → Whole v
unheard_whole v unheard = λ a p found.
    let (session, window) = find_all (λ q. (q.session ≡ 0) × (q.window ≡ nothing_heard)) a v.peers p unheard found in
    rw window whole_nothing

pub safe : IsSafe
safe sealed v ds ups unheard premise runs =
    let all = safe_from sealed v ds ups (unheard_whole v unheard) premise runs in
    (all.0, all.1)
