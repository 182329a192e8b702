use Rattle.std.proofs.Common.{◌≡◌, ◌<◌, ◌+◌, length, max, slice_set, get_or-set_same, add-one, arith, refl, ◌∙◌, rules, subst, sym}
use Rattle.std.proofs.lemmas.List.{get_or_read, length-set}
use Rattle.chaos_file.specs.Store.{change}
use Rattle.file_server.specs.Logged.{logged_uses}
use Rattle.file_server.proofs.Free.{served_to}
use Rattle.file_server.specs.Sessions.{HasNoFiles, Serving, new_serving, serving_of}
use Rattle.file_server.proofs.Given.{set_bare}
use Rattle.file_server.proofs.InTurn.{none_to_serve, one_served}
use Rattle.file_server.proofs.serving.serve_slots.Goals as goal
use Rattle.file_server.proofs.serving.serve_slots.Goals.{then-serve_slot, else-serve_slot}

pub slots-preserved-then-eq : goal.slots-preserved-then-eq
slots-preserved-then-eq g c =
    let uses = logged_uses (change g.S.Store.contents g.S.Store.may_give g.S.Store.count) in
    let turn = c.args.turn.now in
    let entries = g.G.Log.logged in
    let place = c.in-Some.at.0 in
    let next = c.in-Some.ensures.next in
    let kept = c.slots.sessions-inside.kept.items in
    let size : length c.slots.turn.host.now.slots ≡ length turn.host.now.slots = c.slots.invariant.done.0.size in
    let count : length kept ≡ length c.args.sessions.now = c.slots.invariant.done.0.count in
    let within : place < length c.slots.turn.host.now.slots = next.within in
    let here = c.index.result.now in
    let inside : place < length kept = omega (arith, size, count, within, c.requires.alike) in
    let serves : serving_of c.in-Some.at.1 c.slots.turn.now here ≡ here = search rules in
    record {
      within = omega (arith, size, within);
      ends = c.slots.invariant.ends;
      bare = c.slots.invariant.bare;
      done =
          rw (add-one place)
          (none_to_serve uses c.args.input.now.mode turn c.slots.turn place c.in-Some.at.1 c.in-Some.at.2.now here c.args.sessions.now kept
          (c.args.store.now, entries c.args.log.now) (c.slots.store, entries c.slots.log) c.slots.sent
          (served_to uses c.args.input.now.mode turn c.slots.turn c.slots.from place c.args.sessions.now kept
          (c.args.store.now, entries c.args.log.now) (c.slots.store, entries c.slots.log) c.slots.sent next.behind next.free
          c.slots.invariant.done)
          c.in-Some.ensures.index (get_or_read kept place here inside c.index.ensures new_serving)
          serves c.in-Some.ensures.named
          (sym c.can_serve_conn-can_serve.ensures ∙ c.if-not-can_serve.true) (λ v. ((refl, refl), refl)));
    }

pub slots-preserved-then-may_hold_files : goal.slots-preserved-then-may_hold_files
slots-preserved-then-may_hold_files g c =
    let uses = logged_uses (change g.S.Store.contents g.S.Store.may_give g.S.Store.count) in
    let turn = c.args.turn.now in
    let entries = g.G.Log.logged in
    let served = c.serve_slot in
    let place = c.in-Some.at.0 in
    let next = c.in-Some.ensures.next in
    let last = c.slots.invariant in
    let kept = c.slots.sessions-inside.kept.items in
    let left = served.new.slot_session in
    let size : length c.slots.turn.host.now.slots ≡ length turn.host.now.slots = last.done.0.size in
    let count : length kept ≡ length c.args.sessions.now = last.done.0.count in
    let within : place < length c.slots.turn.host.now.slots = next.within in
    let inside : place < length kept = omega (arith, size, count, within, c.requires.alike) in
    let top = c.max-sessions-inside.result in
    let highest : top ≡ max c.slots.sessions-inside.files_below (place + 1) = c.max-sessions-inside.ensures in
    record {
      within = omega (arith, size, within);
      ends = omega (arith, highest, inside, last.ends, length-set kept place left);
      bare =
          λ k from.
          set_bare kept place k left inside (λ (same : k ≡ place). absurd (omega (arith, highest, from, same)))
          (λ apart. last.bare k (omega (arith, highest, from)));
      done =
          rw (add-one place)
          (one_served uses c.args.input.now.mode turn c.slots.turn served.new.turn place c.args.sessions.now kept
          (slice_set kept place left) (c.args.store.now, entries c.args.log.now) (c.slots.store, entries c.slots.log)
          (served.new.store, entries served.new.log) c.slots.sent served.result c.if-serve_slot.sent
          (served_to uses c.args.input.now.mode turn c.slots.turn c.slots.from place c.args.sessions.now kept
          (c.args.store.now, entries c.args.log.now) (c.slots.store, entries c.slots.log) c.slots.sent next.behind next.free
          last.done)
          (served.ensures place kept c.in-Some.ensures.index inside
          (get_or_read kept place c.index_mut.result.now inside c.index_mut.ensures.value new_serving))
          (elim c.if-serve_slot.branch [ then-serve_slot w ↦ search rules | else-serve_slot w ↦ search rules ]));
    }

pub slots-preserved : goal.slots-preserved
slots-preserved g c =
    let uses = logged_uses (change g.S.Store.contents g.S.Store.may_give g.S.Store.count) in
    let turn = c.args.turn.now in
    let entries = g.G.Log.logged in
    let served = c.serve_slot in
    let place = c.in-Some.at.0 in
    let next = c.in-Some.ensures.next in
    let last = c.slots.invariant in
    let kept = c.slots.sessions-inside.kept.items in
    let left = served.new.slot_session in
    let size : length c.slots.turn.host.now.slots ≡ length turn.host.now.slots = last.done.0.size in
    let count : length kept ≡ length c.args.sessions.now = last.done.0.count in
    let within : place < length c.slots.turn.host.now.slots = next.within in
    let inside : place < length kept = omega (arith, size, count, within, c.requires.alike) in
    let there : place < length (slice_set kept place left) = omega (arith, inside, length-set kept place left) in
    let read : c.index-in-Some.result.now ≡ left =
    get_or_read (slice_set kept place left) place c.index-in-Some.result.now there c.index-in-Some.ensures new_serving
    ∙ get_or-set_same kept place left new_serving inside in
    let bare : HasNoFiles left =
    subst (λ (x : Serving). HasNoFiles x) read (c.may_hold_files.ensures c.if-may_hold_files.false) in
    record {
      within = omega (arith, size, within);
      ends = omega (arith, last.ends, length-set kept place left);
      bare =
          λ k from.
          set_bare kept place k left inside (λ same. bare) (λ apart. last.bare k from);
      done =
          rw (add-one place)
          (one_served uses c.args.input.now.mode turn c.slots.turn served.new.turn place c.args.sessions.now kept
          (slice_set kept place left) (c.args.store.now, entries c.args.log.now) (c.slots.store, entries c.slots.log)
          (served.new.store, entries served.new.log) c.slots.sent served.result c.if-serve_slot.sent
          (served_to uses c.args.input.now.mode turn c.slots.turn c.slots.from place c.args.sessions.now kept
          (c.args.store.now, entries c.args.log.now) (c.slots.store, entries c.slots.log) c.slots.sent next.behind next.free
          last.done)
          (served.ensures place kept c.in-Some.ensures.index inside
          (get_or_read kept place c.index_mut.result.now inside c.index_mut.ensures.value new_serving))
          (elim c.if-serve_slot.branch [ then-serve_slot w ↦ search rules | else-serve_slot w ↦ search rules ]));
    }

pub returns : goal.returns
returns g c =
    let entries = g.G.Log.logged in
    served_to (logged_uses (change g.S.Store.contents g.S.Store.may_give g.S.Store.count)) c.args.input.now.mode c.args.turn.now c.slots.turn
    c.slots.from (length c.args.turn.now.host.now.slots) c.args.sessions.now c.slots.sessions-inside.kept.items
    (c.args.store.now, entries c.args.log.now) (c.slots.store, entries c.slots.log) c.slots.sent c.slots.invariant.within
    (λ k behind below. c.in_default.ensures.next k behind) c.slots.invariant.done
