-- The slots of B, and what a server keeps for them.
use Rattle.std.proofs.Common.{◌≡◌, ℕ, zero, suc, ◌+◌, ◌*◌, ◌<◌, ◌==◌, true, false, not, List, [], ◌∷◌, length, Option, Some, None, refl, sym, ap, ◌∙◌, subst, ⊎_elim, arith}
use Rattle.std.specs.Prelude.{slice_get, slice_set}
use Rattle.std.proofs.lemmas.Bool.{false≢true, cond-true, cond-false, cases_Bool, eq-eqb, eqb-true}
use Rattle.std.proofs.lemmas.List.{get_or-set_same, get_or-set_other, length-set}
use Rattle.chaos_file.specs.Session.{new_session}
use Rattle.chaos_file.specs.Store.{Files}
use Rattle.chaos_host.specs.declared.slot.Slot.{Slot}
use Rattle.chaos_host.specs.Slot.{is_free, is_used, place_of}
use Rattle.chaos_host.specs.View.{HostView, id_at, id_in}
use Rattle.chaos_lab.specs.declared.side.Side.TheVariants.{B}
use Rattle.chaos_net.specs.Net.{Name, Story, Station, index_of, present}
use Rattle.chaos_net.specs.Played.{IsStation}
use Rattle.chaos_net.specs.Present.{read_of}
use Rattle.file_server.specs.Sessions.{Serving, new_serving, serving_at, serving_by, serving_of, without_files}
use Rattle.file_server.specs.Slots.{given_back, given_back_at}
use Rattle.file_lab.specs.Bodies.{data_bodies}
use Rattle.file_net.specs.History.{new_service}
use Rattle.file_net.specs.FileNet.{FileNet}
use Rattle.file_net.proofs.Kept.{IsSound}
use Rattle.file_net.proofs.Parts.{silent}
use Rattle.file_end_to_end.specs.Server.{name_at, IsOld}

-- ---- a connection that doesn't exist yet has a new session

pub unserved : (m : Files) (f : FileNet) → IsSound m f → (c : Name) → (f.net B).story c ≡ None
    → f.service.session c ≡ new_session
unserved m f h c none =
    ap (λ v. v.session c) h.history.service
    ∙ silent c (new_service m) f.history (sym (h.history.commands c) ∙ ap (λ o. data_bodies (read_of o)) none)

-- ---- the slot at a place

slot_there : (slots : List Slot) (place : ℕ) → place < length slots → (slot : Slot) × (slice_get slots place ≡ Some slot)
slot_there [] place h = absurd (omega arith)
slot_there (slot ∷ slots) zero h = (slot, refl)
slot_there (slot ∷ slots) (suc place) h = slot_there slots place (omega arith)

-- an own index leads back to its place
pub place_back : (c : Name) → c.place < 255 → place_of (index_of c) ≡ c.place
place_back c few = omega (arith, few)

module _ (own far : Station) (h : IsStation own far) (place : ℕ) (within : place < length own.host.slots) where
  -- a slot in use
  pub id_used : (s : Story) → own.story (present own place) ≡ Some s
      → id_at own.host place ≡ Some (index_of (present own place))
  id_used s is =
      let slot = slot_there own.host.slots place within in
      let at = h.slots place slot.0 slot.1 in
      ap (id_in place) slot.1
      ∙ ⊎_elim
      (λ (free : is_free slot.0 ≡ true). let isnt : None ≡ Some s = sym (at.free free) ∙ is in absurd (cc))
      (λ (used : is_free slot.0 ≡ false).
      cond-true (is_used slot.0) (Some (Rattle.chaos_host.specs.Slot.index_of place slot.0)) None (ap not used)
      ∙ ap (λ g. Some (256 * g + (place + 1))) at.generation)
      (cases_Bool (is_free slot.0))

  -- a free one
  pub id_free : own.story (present own place) ≡ None → id_at own.host place ≡ None
  id_free is =
      let slot = slot_there own.host.slots place within in
      let at = h.slots place slot.0 slot.1 in
      ap (id_in place) slot.1
      ∙ ⊎_elim
      (λ (free : is_free slot.0 ≡ true).
      cond-false (is_used slot.0) (Some (Rattle.chaos_host.specs.Slot.index_of place slot.0)) None (ap not free))
      (λ (used : is_free slot.0 ≡ false). let u = at.used used in let isnt : None ≡ Some u.0 = sym is ∙ u.1 in absurd (cc))
      (cases_Bool (is_free slot.0))

  pub place_few : place < 255
  place_few = let few = h.host.table.few in omega (arith, few, within)

-- ---- the session for a connection

pub serving_same : (id now : ℕ) (serving : Serving) → serving.id ≡ Some id → serving_of id now serving ≡ serving
serving_same id now serving is =
    ap (serving_by id now serving) is ∙ cond-true (id == id) serving _ (eq-eqb id id refl)

pub serving_id : (id now : ℕ) (serving : Serving) → (serving_of id now serving).id ≡ Some id
serving_id id now serving = by serving.id refl
  where
    by : (o : Option ℕ) → serving.id ≡ o → (serving_by id now serving o).id ≡ Some id
    by None is = refl
    by (Some kept) is =
        ⊎_elim
        (λ (same : (kept == id) ≡ true).
        ap (λ (z : Serving). z.id) (cond-true (kept == id) serving _ same) ∙ is ∙ ap Some (eqb-true kept id same))
        (λ (apart : (kept == id) ≡ false). ap (λ (z : Serving). z.id) (cond-false (kept == id) serving _ apart))
        (cases_Bool (kept == id))

-- of the connection before, or of none, it is new
next_index : (place last : ℕ) → (index_of (record { place = place; turn = last }) == index_of (record { place = place; turn = suc last })) ≡ false
next_index place last =
    ⊎_elim
    (λ (same : (index_of (record { place = place; turn = last }) == index_of (record { place = place; turn = suc last })) ≡ true).
    let e = eqb-true (index_of (record { place = place; turn = last })) (index_of (record { place = place; turn = suc last })) same in
    absurd (omega (arith, e)))
    (λ (apart : (index_of (record { place = place; turn = last }) == index_of (record { place = place; turn = suc last })) ≡ false). apart)
    (cases_Bool (index_of (record { place = place; turn = last }) == index_of (record { place = place; turn = suc last })))

pub serving_new : (turns : ℕ → ℕ) (place now : ℕ) (serving : Serving) → IsOld turns place serving.id
    → (serving_of (index_of (name_at turns place)) now serving).session ≡ new_session
serving_new turns place now serving old = by serving.id old
  where
    id : ℕ
    id = index_of (name_at turns place)

    by : (o : Option ℕ) → IsOld turns place o
        → (serving_by (index_of (name_at turns place)) now serving o).session ≡ new_session
    by None old = refl
    by (Some kept) old =
        let apart : (kept == index_of (name_at turns place)) ≡ false =
        ap (λ z. z == index_of (name_at turns place)) old.2
        ∙ ap (λ t. index_of (record { place = place; turn = old.0 }) == index_of (record { place = place; turn = t })) old.1
        ∙ next_index place old.0 in
        ap (λ (z : Serving). z.session) (cond-false (kept == index_of (name_at turns place)) serving _ apart)

-- ---- the sessions of a server

pub serving_set : (sessions : List Serving) (place : ℕ) (serving : Serving) → place < length sessions
    → serving_at (slice_set sessions place serving) place ≡ serving
serving_set sessions place serving within = get_or-set_same sessions place serving new_serving within

pub serving_others : (sessions : List Serving) (place p : ℕ) (serving : Serving) → (p ≡ place → ⊥)
    → serving_at (slice_set sessions place serving) p ≡ serving_at sessions p
serving_others sessions place p serving apart = get_or-set_other sessions place p serving new_serving apart

pub given_size : (h : HostView) (n : ℕ) (sessions : List Serving) → length (given_back h n sessions) ≡ length sessions
given_size h zero sessions = refl
given_size h (suc n) sessions = by (id_at h n) ∙ given_size h n sessions
  where
    by : (o : Option ℕ) → length (given_back_at o n (given_back h n sessions)) ≡ length (given_back h n sessions)
    by None = length-set (given_back h n sessions) n _
    by (Some id) = refl

pub given_used : (h : HostView) (n : ℕ) (sessions : List Serving) (p id : ℕ) → id_at h p ≡ Some id
    → serving_at (given_back h n sessions) p ≡ serving_at sessions p
given_used h zero sessions p id is = refl
given_used h (suc n) sessions p id is = by (id_at h n) refl ∙ given_used h n sessions p id is
  where
    by : (o : Option ℕ) → id_at h n ≡ o
        → serving_at (given_back_at o n (given_back h n sessions)) p ≡ serving_at (given_back h n sessions) p
    by None none =
        serving_others (given_back h n sessions) n p _
        (λ same. let isnt : None ≡ Some id = sym none ∙ ap (id_at h) (sym same) ∙ is in absurd (cc))
    by (Some k) none = refl

pub given_id : (h : HostView) (n : ℕ) (sessions : List Serving) (p : ℕ) → p < length sessions
    → (serving_at (given_back h n sessions) p).id ≡ (serving_at sessions p).id
given_id h zero sessions p within = refl
given_id h (suc n) sessions p within = by (id_at h n) ∙ given_id h n sessions p within
  where
    by : (o : Option ℕ)
        → (serving_at (given_back_at o n (given_back h n sessions)) p).id ≡ (serving_at (given_back h n sessions) p).id
    by (Some k) = refl
    by None =
        ⊎_elim
        (λ (same : (p == n) ≡ true).
        let e : p ≡ n = eqb-true p n same in
        let size = given_size h n sessions in
        subst
        (λ q. (serving_at (slice_set (given_back h n sessions) n (without_files (serving_at (given_back h n sessions) n))) q).id
        ≡ (serving_at (given_back h n sessions) q).id)
        (sym e)
        (ap (λ (z : Serving). z.id)
        (serving_set (given_back h n sessions) n (without_files (serving_at (given_back h n sessions) n))
        (omega (arith, size, e, within)))))
        (λ (apart : (p == n) ≡ false).
        ap (λ (z : Serving). z.id)
        (serving_others (given_back h n sessions) n p (without_files (serving_at (given_back h n sessions) n))
        (λ e. false≢true (sym apart ∙ eq-eqb p n e))))
        (cases_Bool (p == n))
