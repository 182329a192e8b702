use Rattle.std.proofs.Common.{◌≡◌, ◌≢◌, ◌∙◌, ◌<◌, ◌≤◌, ◌+◌, List, add-one, ap, arith, inl, inr, length, slice_set, subst, sym}
use Rattle.std.proofs.lemmas.Bool.{cases_lt}
use Rattle.std.proofs.lemmas.List.{get_or_read, length-set}
use Rattle.chaos_host.specs.View.{id_at}
use Rattle.file_server.specs.Sessions.{HasNoFiles, Serving, new_serving, serving_at}
use Rattle.file_server.specs.Slots.{given_back_at, given_back_in}
use Rattle.file_server.proofs.Given.{at_in, beyond, rest_bare, set_bare}
use Rattle.file_server.proofs.sessions.Sessions.give_back.Goals as goal
use Rattle.file_server.proofs.sessions.Sessions.give_back.Goals.{then-give_back, else-give_back}

pub loop-place-init : goal.loop-place-init
loop-place-init c = record {
  given = c.self.view_is;
  many = ap length c.self.view_is;
  behind = omega arith;
  bare = λ k from under. absurd (omega (arith, under));
}

pub loop-place-preserved : goal.loop-place-preserved
loop-place-preserved c =
    let xs = c.loop-place.self-inside.kept.items in
    let place = c.loop-place.place in
    let there = id_at c.args.host.now place in
    let left = c.give_back.new.self in
    let last = c.loop-place.invariant in
    let size : length c.self.inside.kept.items ≡ length c.args.self.now = ap length c.self.view_is in
    let within : place < length xs = omega (arith, c.loop-place-test.true, c.self.inside.within, size, last.many) in
    let read = get_or_read xs place c.index_mut.result.now within c.index_mut.ensures.value new_serving in
    record {
      given =
          rw (add-one place)
          (ap (slice_set xs place) (c.give_back.ensures.given ∙ ap (given_back_in there) read)
          ∙ (sym (at_in there place xs) ∙ ap (given_back_at there place) last.given));
      many = length-set xs place left ∙ last.many;
      behind =
          elim c.if-give_back.branch as (λ _. c.if-give_back.below ≤ place + 1) [
            | then-give_back w ↦ omega (arith, w.below-is)
            | else-give_back w ↦ omega (arith, w.below-is, last.behind)
          ];
      bare =
          λ k from under.
          elim c.if-give_back.branch as (λ _. HasNoFiles (serving_at (slice_set xs place left) k)) [
            | then-give_back w ↦ absurd (omega (arith, w.below-is, from, under))
            | else-give_back w ↦
                set_bare xs place k left within (λ same. c.give_back.ensures.holds w.if-give_back.false)
                (λ (apart : k ≢ place).
                elim (cases_lt k place) as (λ _. HasNoFiles (serving_at xs k)) [
                  | inl less ↦ last.bare k (omega (arith, w.below-is, from)) less
                  | inr more ↦ let same : k ≡ place = omega (arith, more, under) in absurd (apart same)
                ])
          ];
    }

pub invariant_of-self-inside-2 : goal.invariant_of-self-inside-2
invariant_of-self-inside-2 c =
    let host = c.args.host.now in
    let xs = c.loop-place.self-inside.kept.items in
    let place = c.loop-place.place in
    let last = c.loop-place.invariant in
    let size : length c.self.inside.kept.items ≡ length c.args.self.now = ap length c.self.view_is in
    let within : c.loop-place.below ≤ length xs
    = omega (arith, last.behind, c.loop-place.auto.place-end, c.self.inside.within, size, last.many) in (
      within,
      (
        λ k from.
            elim (cases_lt k place) as (λ _. HasNoFiles (serving_at xs k)) [
              | inl less ↦ last.bare k from less
              | inr more ↦
                  let behind : c.self.inside.files_below ≤ k = omega (arith, c.loop-place-test.false, more) in
                  let same : serving_at c.self.inside.kept.items k ≡ serving_at xs k =
                  ap (λ (ss : List Serving). serving_at ss k) c.self.view_is
                  ∙ (sym (beyond host place k c.args.self.now more)
                  ∙ sym (ap (λ (ss : List Serving). serving_at ss k) last.given)) in
                  subst (λ (x : Serving). HasNoFiles x) same (c.self.inside.bare k behind)
            ],
        tt,
      ),
    )

pub returns : goal.returns
returns c =
    let host = c.args.host.now in
    let place = c.loop-place.place in
    let last = c.loop-place.invariant in
    let size : length c.self.inside.kept.items ≡ length c.args.self.now = ap length c.self.view_is in
    let within : place ≤ length host.slots
    = omega (arith, c.loop-place.auto.place-end, c.self.inside.within, size, c.requires) in
    last.given
    ∙ sym (rest_bare host place (length host.slots) c.args.self.now within
    (λ k from.
    let behind : c.self.inside.files_below ≤ k = omega (arith, c.loop-place-test.false, from) in
    subst (λ (x : Serving). HasNoFiles x) (ap (λ (ss : List Serving). serving_at ss k) c.self.view_is)
    (c.self.inside.bare k behind)))
