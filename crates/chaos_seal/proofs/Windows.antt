-- What a window stands for.
use Rattle.std.proofs.Common.{◌≡◌, ◌≢◌, ◌↔◌, ℕ, suc, ◌+◌, ◌%◌, ◌<◌, ◌≤◌, max, List, [], ◌∷◌, length, length-set, get_or, set, replicate, refl, arith, ap, ◌∙◌, sym, ◌⊎◌, inl, inr, All, Contains}
use Rattle.std.proofs.lemmas.List.{get_or-replicate, get_or-set_same, get_or-set_other}
use Rattle.std.proofs.lemmas.List.Elements.{All-cons, All-nil, All-head, All-tail}
use Rattle.std.proofs.lemmas.Bool.{cases_lt, cases_eq}
use Rattle.chaos_seal.specs.Window.{EachFresh, IsExact, IsFresh, hear, nothing_heard, window_of}
use Rattle.chaos_seal.specs.declared.window.ReplayWindow.{ReplayWindow}

-- a window has a place for each residue
abbrev pub IsWhole : ReplayWindow → Type 0
IsWhole w = length w.slots ≡ 256

pub whole_nothing : IsWhole nothing_heard
whole_nothing = refl

pub whole_heard : (w : ReplayWindow) (c : ℕ) → IsWhole w → IsWhole (hear c w)
whole_heard w c whole = length-set w.slots (c % 256) c ∙ whole

-- ---- what a counter that is heard leaves fresh

slot_same : (w : ReplayWindow) (c : ℕ) → IsWhole w → get_or (hear c w).slots (c % 256) 0 ≡ c
slot_same w c whole = get_or-set_same w.slots (c % 256) c 0 (omega (arith, whole))

slot_other : (w : ReplayWindow) (c i : ℕ) → i ≢ c % 256 → get_or (hear c w).slots i 0 ≡ get_or w.slots i 0
slot_other w c i ne = get_or-set_other w.slots (c % 256) i c 0 ne

-- What is fresh later was fresh before.
pub fresh_before : (w : ReplayWindow) (c d : ℕ) → IsWhole w → IsFresh w c → IsFresh (hear c w) d → IsFresh w d
fresh_before w c d whole now later =
    let near : w.greatest < d + 256 = omega (arith, later.1) in
    elim (cases_eq (d % 256) (c % 256)) [
      | inl e ↦
          let is : get_or (hear c w).slots (d % 256) 0 ≡ c = ap (λ i. get_or (hear c w).slots i 0) e ∙ slot_same w c whole in
          let was : get_or w.slots (d % 256) 0 ≡ get_or w.slots (c % 256) 0 = ap (λ i. get_or w.slots i 0) e in
          (omega (arith, is, was, now.0, later.0), near)
      | inr ne ↦ (omega (arith, slot_other w c (d % 256) ne, later.0), near)
    ]

-- What is fresh later is another counter, and fewer than 256 below.
pub apart : (w : ReplayWindow) (c d : ℕ) → IsWhole w → IsFresh (hear c w) d → (c ≢ d) × (c < d + 256)
apart w c d whole later = (
  λ e.
      let is : get_or (hear c w).slots (d % 256) 0 ≡ c =
      ap (λ n. get_or (hear c w).slots (n % 256) 0) (sym e) ∙ slot_same w c whole in
      omega (arith, is, later.0, e),
  omega (arith, later.1),
)

-- A counter that isn't 0 is fresh where nothing was heard.
pub first_fresh : (c : ℕ) → (0 < c) ↔ IsFresh nothing_heard c
first_fresh c =
    let none : get_or nothing_heard.slots (c % 256) 0 ≡ 0 = get_or-replicate {A = ℕ} 256 (c % 256) 0 0 (omega arith) in
    (λ some. (omega (arith, none, some), omega arith), λ fresh. omega (arith, fresh.0, none))

-- ---- the law of the window

-- The window stands for these counters: of each residue it keeps the greatest heard, and 0 where none was.
pub record Remembers (w : ReplayWindow) (seen : List ℕ) : Type 0 where
  pub whole : IsWhole w
  pub greatest : Contains seen w.greatest
  pub all : All (λ c. (c ≤ w.greatest) × (c ≤ get_or w.slots (c % 256) 0)) seen
  pub kept : (i : ℕ) → i < 256 → Contains seen (get_or w.slots i 0)
  pub place : (i : ℕ) → i < 256 → (get_or w.slots i 0 ≡ 0) ⊎ (get_or w.slots i 0 % 256 ≡ i)

-- with 0, which nobody sends
abbrev with_zero : List ℕ → List ℕ
with_zero [] = 0 ∷ []
with_zero (c ∷ cs) = c ∷ with_zero cs

here : (c : ℕ) (cs : List ℕ) → Contains (c ∷ cs) c
here c cs = (0, omega arith, refl)

there : (c x : ℕ) (cs : List ℕ) → Contains cs x → Contains (c ∷ cs) x
there c x cs held = (suc held.0, omega (arith, held.1), held.2)

at_held : (P : ℕ → Type 0) (cs : List ℕ) (x : ℕ) → All P cs → Contains cs x → P x
at_held P cs x all held = rw held.2 at (all held.0 x held.1)

heard : (w : ReplayWindow) (seen : List ℕ) (c : ℕ) → Remembers w seen → IsFresh w c → Remembers (hear c w) (c ∷ seen)
heard w seen c r fresh =
    let slots = set w.slots (c % 256) c in
    let g = max w.greatest c in
    let same : get_or slots (c % 256) 0 ≡ c = slot_same w c r.whole in
    let other : (i : ℕ) → i ≢ c % 256 → get_or slots i 0 ≡ get_or w.slots i 0 = λ i ne. slot_other w c i ne in
    record {
      whole = whole_heard w c r.whole;
      greatest =
          elim (cases_lt w.greatest c) [
            | inl less ↦ let is : g ≡ c = omega (arith, less) in rw is (here c seen)
            | inr more ↦ let is : g ≡ w.greatest = omega (arith, more) in rw is (there c w.greatest seen r.greatest)
          ];
      all =
          All-cons (λ x. (x ≤ g) × (x ≤ get_or slots (x % 256) 0)) c seen (omega arith, omega (arith, same))
          (λ k d lt.
          let x = get_or seen k d in
          let (le, le_slot) = r.all k d lt in (
            omega (arith, le),
            elim (cases_eq (x % 256) (c % 256)) [
              | inl e ↦
                  let old : x ≤ get_or w.slots (c % 256) 0 = rw e at le_slot in
                  rw (e, same) (omega (arith, old, fresh.0))
              | inr ne ↦ omega (arith, other (x % 256) ne, le_slot)
            ],
          ));
      kept = λ i lt.
          elim (cases_eq i (c % 256)) [
            | inl e ↦ rw (e, same) (here c seen)
            | inr ne ↦ rw (other i ne) (there c _ seen (r.kept i lt))
          ];
      place = λ i lt.
          elim (cases_eq i (c % 256)) [
            | inl e ↦ inr (rw (e, same) refl)
            | inr ne ↦ rw (other i ne) (r.place i lt)
          ];
    }

nothing_above : All (λ x. (x ≤ 0) × (x ≤ get_or (replicate 256 0) (x % 256) 0)) (0 ∷ [])
nothing_above =
    All-cons (λ x. (x ≤ 0) × (x ≤ get_or (replicate 256 0) (x % 256) 0)) 0 [] (omega arith, omega arith)
    (All-nil (λ x. (x ≤ 0) × (x ≤ get_or (replicate 256 0) (x % 256) 0)))

remembers : (cs : List ℕ) → EachFresh cs → Remembers (window_of cs) (with_zero cs)
remembers [] fresh = record {
  whole = refl;
  greatest = here 0 [];
  all = nothing_above;
  kept = λ i lt. rw (get_or-replicate {A = ℕ} 256 i 0 0 lt) (here 0 []);
  place = λ i lt. inl (get_or-replicate {A = ℕ} 256 i 0 0 lt);
}
remembers (c ∷ cs) fresh = heard (window_of cs) (with_zero cs) c (remembers cs fresh.1) fresh.0

-- what is asked of a counter, at each counter that was heard
abbrev Near : ℕ → ℕ → Type 0
Near counter c = (c ≢ counter) × (c < counter + 256)

fresh_there : (w : ReplayWindow) (seen : List ℕ) (c : ℕ) → Remembers w seen → All (Near c) seen → IsFresh w c
fresh_there w seen c r near =
    let v = get_or w.slots (c % 256) 0 in
    let inside : c % 256 < 256 = omega arith in
    let (other, close) = at_held (Near c) seen v near (r.kept (c % 256) inside) in
    let (far, below) = at_held (Near c) seen w.greatest near r.greatest in
    elim (cases_lt v c) [
      | inl less ↦ (less, below)
      | inr more ↦
          elim (r.place (c % 256) inside) [
            | inl none ↦ absurd (other (omega (arith, none, more)))
            | inr place ↦ absurd (other (omega (arith, place, more, close)))
          ]
    ]

near_there : (w : ReplayWindow) (seen : List ℕ) (c : ℕ) → Remembers w seen → IsFresh w c → All (Near c) seen
near_there w seen c r fresh = λ k d lt.
    let x = get_or seen k d in
    let (le, le_slot) = r.all k d lt in (
      λ e.
          let same : get_or w.slots (x % 256) 0 ≡ get_or w.slots (c % 256) 0 = ap (λ n. get_or w.slots (n % 256) 0) e in
          omega (arith, same, le_slot, e, fresh.0),
      omega (arith, le, fresh.1),
    )

split_zero : (counter : ℕ) (cs : List ℕ) → All (Near counter) (with_zero cs) → (0 < counter) × All (Near counter) cs
split_zero counter [] near =
    let (other, below) = All-head (Near counter) 0 [] near in
    (omega (arith, other), All-nil (Near counter))
split_zero counter (c ∷ cs) near =
    let rest = split_zero counter cs (All-tail (Near counter) c (with_zero cs) near) in
    (rest.0, All-cons (Near counter) c cs (All-head (Near counter) c (with_zero cs) near) rest.1)

join_zero : (counter : ℕ) (cs : List ℕ) → 0 < counter → All (Near counter) cs → All (Near counter) (with_zero cs)
join_zero counter [] some near = All-cons (Near counter) 0 [] (λ e. omega (arith, e, some), omega arith) (All-nil (Near counter))
join_zero counter (c ∷ cs) some near =
    All-cons (Near counter) c (with_zero cs) (All-head (Near counter) c cs near)
    (join_zero counter cs some (All-tail (Near counter) c cs near))

pub exact : IsExact
exact cs counter fresh =
    let r = remembers cs fresh in (
      λ now. split_zero counter cs (near_there (window_of cs) (with_zero cs) counter r now),
      λ near. fresh_there (window_of cs) (with_zero cs) counter r (join_zero counter cs near.0 near.1),
    )
