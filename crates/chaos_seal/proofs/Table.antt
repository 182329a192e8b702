-- The table of hosts with one host changed.
use Rattle.std.proofs.Common.{◌≡◌, ◌≢◌, ℕ, zero, suc, ◌+◌, ◌<◌, ◌≤◌, ◌==◌, Bool, true, false, cond, nat_lt, List, [], ◌∷◌, length, get_or, Option, Some, None, refl, ap, ap₂, ◌∙◌, sym, arith, inl, inr, length-set, drop}
use Rattle.std.specs.Prelude.{is_some, option_map, position, slice_get, slice_set}
use Rattle.std.specs.List.{position_or_len, refill}
use Rattle.std.proofs.lemmas.List.{take_at}
use Rattle.std.proofs.lemmas.Bool.{cases_eq}
use Rattle.std.proofs.lemmas.Bool.Decides.{nat_tests}
use Rattle.std.proofs.lemmas.List.Folds.{find_at}
use Rattle.std.proofs.lemmas.Option.{slice_get_past, slice_get_read}
use Rattle.chaos_seal.specs.Peers.{Keeps, SealsView, has_key, heard_of, is_unheard, peer_of, unheard_of, with_peer}
use Rattle.chaos_seal.specs.declared.peer.SealPeer.{SealPeer}

-- whether a host has this address
abbrev pub has : ℕ → SealPeer → Bool
has address p = p.address == address

-- where the place that is found is the first
first_place : (b : Bool) (n i : ℕ) → cond b (Some n) None ≡ Some i → i ≡ n
first_place true n i e = cc
first_place false n i e = absurd (cc)

no_place : (b : Bool) (n : ℕ) → cond b (Some n) None ≡ None → b ≡ false
no_place true n e = absurd (cc)
no_place false n e = refl

pub at_place : (address : ℕ) (ps : List SealPeer) (i : ℕ) → position (has address) ps ≡ Some i
    → peer_of address ps ≡ slice_get ps i
at_place address ps i is =
    find_at (has address) ps ∙ ap (slice_get ps) (sym (first_place _ (position_or_len (has address) ps) i is))

-- where there is no place, nothing is found
pub none_found : (address : ℕ) (ps : List SealPeer) → position (has address) ps ≡ None → peer_of address ps ≡ None
none_found address ps none =
    let past : nat_lt (position_or_len (has address) ps) (length ps) ≡ false = no_place _ _ none in
    let behind : length ps ≤ position_or_len (has address) ps = grind (arith, nat_tests) in
    find_at (has address) ps ∙ slice_get_past ps (position_or_len (has address) ps) behind

inside_place : (b : Bool) (n i : ℕ) → cond b (Some n) None ≡ Some i → b ≡ true
inside_place true n i e = refl
inside_place false n i e = absurd (cc)

pub within : (address : ℕ) (ps : List SealPeer) (i : ℕ) → position (has address) ps ≡ Some i → i < length ps
within address ps i is =
    let test : nat_lt (position_or_len (has address) ps) (length ps) ≡ true = inside_place _ _ i is in
    let same : i ≡ position_or_len (has address) ps = first_place _ _ i is in
    grind (arith, nat_tests)

-- the host that stands at a place
pub there : (ps : List SealPeer) (i : ℕ) → i < length ps → (p : SealPeer) × (slice_get ps i ≡ Some p)
there [] i inside = absurd (omega arith)
there (x ∷ xs) zero inside = (x, refl)
there (x ∷ xs) (suc i) inside = there xs i (omega arith)

pub read_there : (ps : List SealPeer) (i : ℕ) (p : SealPeer) → i < length ps → p ≡ get_or ps i p → slice_get ps i ≡ Some p
read_there ps i p inside is = slice_get_read ps (length ps) i p refl inside is

-- a host that is read at the place that was found
pub seen : (address : ℕ) (ps xs : List SealPeer) (i : ℕ) (p : SealPeer) → position (has address) ps ≡ Some i → xs ≡ ps
    → p ≡ get_or xs i p → (slice_get ps i ≡ Some p) × (peer_of address ps ≡ Some p)
seen address ps xs i p is same read =
    let at = read_there ps i p (within address ps i is) (read ∙ ap (λ l. get_or l i p) same) in
    (at, at_place address ps i is ∙ at)

-- the view once one host was changed in place
pub changed_view : (v : SealsView) (me session : ℕ) (closed : Bool) (items now : List SealPeer) (n : ℕ) (counted : n ≡ length items) (i : ℕ) (q r : SealPeer)
    → ◌≡◌ {A = SealsView} (record { me = me; session = session; closed = closed; peers = items }) v → now ≡ items → q ≡ r
    → ◌≡◌ {A = SealsView}
    (record { me = me; session = session; closed = closed; peers = refill n items (slice_set now i q) })
    (record v { peers = slice_set v.peers i r })
changed_view v me session closed items now n counted i q r view is same =
    let s = slice_set now i q in
    let whole : refill n items s ≡ s =
    take_at s (drop (length s) items) n (length-set now i q ∙ ap length is ∙ sym counted) in
    let there : s ≡ slice_set items i r = ap₂ (λ l x. slice_set l i x) is same in
    ap (λ l. record { me = me; session = session; closed = closed; peers = l }) (whole ∙ there)
    ∙ ap (λ (u : SealsView). record u { peers = slice_set u.peers i r }) view

-- whether a host is found, by its place
pub found_so : (address : ℕ) (v : SealsView) → is_some (position (has address) v.peers) ≡ has_key address v
found_so address v = by (position (has address) v.peers) refl
  where
    by : (o : Option ℕ) → position (has address) v.peers ≡ o → is_some o ≡ has_key address v
    by None e = rw (none_found address v.peers e) refl
    by (Some i) e =
        let (p, at) = there v.peers i (within address v.peers i e) in
        let found : peer_of address v.peers ≡ Some p = at_place address v.peers i e ∙ at in
        rw found refl

pub unheard_none : (address : ℕ) (v : SealsView) → position (has address) v.peers ≡ None → unheard_of address v ≡ None
unheard_none address v e = rw (none_found address v.peers e) refl

pub unheard_some : (address : ℕ) (v : SealsView) (p : SealPeer) → peer_of address v.peers ≡ Some p → is_unheard p ≡ true
    → unheard_of address v ≡ Some p.sent
unheard_some address v p found is = rw (found, is) refl

pub heard_some : (address : ℕ) (v : SealsView) (p : SealPeer) → peer_of address v.peers ≡ Some p → is_unheard p ≡ false
    → unheard_of address v ≡ None
heard_some address v p found is = rw (found, is) refl

-- the host that is found has the address
pub its_address : (address : ℕ) (ps : List SealPeer) (p : SealPeer) → peer_of address ps ≡ Some p → p.address ≡ address
its_address address [] p found = absurd (cc)
its_address address (x ∷ xs) p found =
    elim (cases_eq x.address address) [
      | inl e ↦
          let test : (x.address == address) ≡ true = grind (arith, nat_tests) in
          let is : Some x ≡ Some p = rw test at found in
          let same : x ≡ p = cc in
          ap (λ (q : SealPeer). q.address) (sym same) ∙ e
      | inr ne ↦
          let test : (x.address == address) ≡ false = grind (arith, nat_tests) in
          its_address address xs p (rw test at found)
    ]

-- the host at the place that is found, changed
changed : (q : SealPeer) (ps : List SealPeer) (i : ℕ) → i ≡ position_or_len (has q.address) ps → i < length ps
    → slice_set ps i q ≡ with_peer q ps
changed q [] i e inside = absurd (omega arith)
changed q (x ∷ xs) zero e inside =
    elim (cases_eq x.address q.address) [
      | inl same ↦
          let test : (x.address == q.address) ≡ true = grind (arith, nat_tests) in
          rw test refl
      | inr other ↦
          let test : (x.address == q.address) ≡ false = grind (arith, nat_tests) in
          let no : 0 ≡ 1 + position_or_len (has q.address) xs = rw test at e in
          absurd (omega (arith, no))
    ]
changed q (x ∷ xs) (suc i) e inside =
    elim (cases_eq x.address q.address) [
      | inl same ↦
          let test : (x.address == q.address) ≡ true = grind (arith, nat_tests) in
          let no : suc i ≡ 0 = rw test at e in
          absurd (omega (arith, no))
      | inr other ↦
          let test : (x.address == q.address) ≡ false = grind (arith, nat_tests) in
          let more : suc i ≡ 1 + position_or_len (has q.address) xs = rw test at e in
          rw test (ap (λ l. x ∷ l) (changed q xs i (omega (arith, more)) (omega arith)))
    ]

pub changed_at : (address : ℕ) (q : SealPeer) (ps : List SealPeer) (i : ℕ) → q.address ≡ address
    → position (has address) ps ≡ Some i → i < length ps → slice_set ps i q ≡ with_peer q ps
changed_at address q ps i same is inside =
    changed q ps i
    (first_place _ (position_or_len (has address) ps) i is ∙ ap (λ a. position_or_len (has a) ps) (sym same)) inside

-- ---- looks at the changed table

pub found_itself : (q : SealPeer) (ps : List SealPeer) (p : SealPeer) → peer_of q.address ps ≡ Some p
    → peer_of q.address (with_peer q ps) ≡ Some q
found_itself q [] p known = absurd (cc)
found_itself q (x ∷ xs) p known =
    elim (cases_eq x.address q.address) [
      | inl same ↦
          let test : (x.address == q.address) ≡ true = grind (arith, nat_tests) in
          let itself : (q.address == q.address) ≡ true = grind (arith, nat_tests) in
          rw (test, itself) refl
      | inr other ↦
          let test : (x.address == q.address) ≡ false = grind (arith, nat_tests) in
          rw (test, test) (found_itself q xs p (rw test at known))
    ]

pub found_other : (address : ℕ) (q : SealPeer) (ps : List SealPeer) → q.address ≢ address
    → peer_of address (with_peer q ps) ≡ peer_of address ps
found_other address q [] ne = refl
found_other address q (x ∷ xs) ne =
    elim (cases_eq x.address q.address) [
      | inl same ↦
          let test : (x.address == q.address) ≡ true = grind (arith, nat_tests) in
          let not_x : (x.address == address) ≡ false = grind (arith, nat_tests) in
          let not_q : (q.address == address) ≡ false = grind (arith, nat_tests) in
          rw (test, not_x, not_q) refl
      | inr other ↦
          let test : (x.address == q.address) ≡ false = grind (arith, nat_tests) in
          rw test (ap (cond (x.address == address) (Some x)) (found_other address q xs ne))
    ]

-- A host changed so that what was heard of it stays.
pub kept : (v : SealsView) (q p : SealPeer) → peer_of q.address v.peers ≡ Some p → heard_of q ≡ heard_of p
    → Keeps v (record v { peers = with_peer q v.peers })
kept v q p known same = record {
  me = refl;
  session = refl;
  closed = refl;
  heard = λ address.
      elim (cases_eq q.address address) [
        | inl e ↦
            ap (λ a. option_map heard_of (peer_of a (with_peer q v.peers))) (sym e)
            ∙ ap (option_map heard_of) (found_itself q v.peers p known)
            ∙ ap Some same
            ∙ ap (option_map heard_of) (sym known)
            ∙ ap (λ a. option_map heard_of (peer_of a v.peers)) e
        | inr ne ↦ ap (option_map heard_of) (found_other address q v.peers ne)
      ];
}

pub kept_all : (v : SealsView) → Keeps v v
kept_all v = record { me = refl; session = refl; closed = refl; heard = λ address. refl }
