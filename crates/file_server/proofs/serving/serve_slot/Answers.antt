use Rattle.std.proofs.Common.{◌≡◌, ◌≤◌, ◌+◌, ◌-◌, ℕ, List, length, inl, inr, refl, ap, sym, subst, ◌∙◌, add-one, arith, slice_set, get_or-set_same}
use Rattle.std.proofs.lemmas.List.{set-get_or, set-set}
use Rattle.chaos_node.specs.declared.limits.TheConstants.{TURN_ROOM}
use Rattle.chaos_packet.specs.Outbox.{OutboxView}
use Rattle.chaos_file.specs.Store.{change}
use Rattle.file_server.specs.Logged.{logged_uses}
use Rattle.file_server.specs.Server.{server}
use Rattle.file_server.specs.Sessions.{Serving, new_serving, serving_of}
use Rattle.file_server.specs.declared.limits.TheConstants.{BURST}
use Rattle.file_server.proofs.Burst.{ended_so, next_so, none_so, slot_so}
use Rattle.file_server.proofs.Relation.{as_much_room, placed_so}
use Rattle.file_server.proofs.serving.serve_slot.Goals as goal

pub burst-init : goal.burst-init
burst-init g c =
    let turn = c.args.turn.now in
    let none : length turn.out.now.packets ≡ 0 = ap length turn.empty in
    record {
      cap = refl;
      goes = λ _. record { few = omega arith; room = omega (arith, none); burst = inl refl };
      ended = λ e. absurd (cc);
      done = λ place sessions within here.
          none_so (logged_uses (change g.S.Store.contents g.S.Store.may_give g.S.Store.count)) turn.now place c.args.id
          (server turn.host.now sessions (c.args.store.now, g.G.Log.logged c.args.log.now)) _ turn.out.now
          (ap (λ (ss : List Serving). server turn.host.now ss (c.args.store.now, g.G.Log.logged c.args.log.now))
          (ap (slice_set sessions place) here ∙ set-get_or sessions place new_serving));
    }

pub serve-requires : goal.serve-requires
serve-requires g c =
    let cap = c.burst.invariant.cap in
    let room = c.args.turn.now.room in
    let goes = c.burst.invariant.goes c.burst-test.true in
    let few = goes.room in
    omega (arith, cap, room, few)

pub overflow_sub-room : goal.overflow_sub-room
overflow_sub-room g c =
    let none : length c.args.turn.now.out.now.packets ≡ 0 = ap length c.args.turn.now.empty in
    let before = c.room-room.ensures.sound in
    let after = c.room.ensures.sound in
    let same : c.serve.new.out.cap ≡ c.args.turn.now.out.now.cap =
    as_much_room
    (logged_uses (change g.S.Store.contents g.S.Store.may_give g.S.Store.count) (c.burst.store, g.G.Log.logged c.burst.log)
    (c.serve.new.store, g.G.Log.logged c.serve.new.log) c.burst.host c.args.id)
    c.args.turn.now.now c.args.id (serving_of c.args.id c.args.turn.now.now c.burst.slot_session) c.serve.new.self
    c.burst.host c.serve.new.host c.burst.out c.serve.new.out c.serve.ensures
    ∙ c.burst.invariant.cap in
    omega (arith, none, before, after, same)

pub burst-preserved : goal.burst-preserved
burst-preserved g c =
    let turn = c.args.turn.now in
    let was = c.burst.invariant in
    let served = c.serve.new in
    let goes = was.goes c.burst-test.true in
    let none : length turn.out.now.packets ≡ 0 = ap length turn.empty in
    let before = c.room-room.ensures.sound in
    let after = c.room.ensures.sound in
    let same : served.out.cap ≡ turn.out.now.cap =
    as_much_room
    (logged_uses (change g.S.Store.contents g.S.Store.may_give g.S.Store.count) (c.burst.store, g.G.Log.logged c.burst.log)
    (c.serve.new.store, g.G.Log.logged c.serve.new.log) c.burst.host c.args.id)
    c.args.turn.now.now c.args.id (serving_of c.args.id c.args.turn.now.now c.burst.slot_session) c.serve.new.self
    c.burst.host c.serve.new.host c.burst.out c.serve.new.out c.serve.ensures
    ∙ c.burst.invariant.cap in
    let put : c.room-room.result - c.room.result ≡ length served.out.packets = omega (arith, none, before, after, same) in
    record {
      cap = same;
      goes = λ e.
          let on = c.goes_on-more.ensures.on e in
          record { few = on.1; room = subst (λ (n : ℕ). n ≤ BURST) put on.2; burst = inr on.0 };
      ended = λ e.
          ended_so c.args.input.now.mode served.host c.args.id c.burst.times (c.burst.times + 1) (c.room-room.result - c.room.result) served.out.packets
          (add-one c.burst.times) goes.few goes.burst put (c.goes_on-more.ensures.over e);
      done = λ place sessions within here.
          rw (add-one c.burst.times)
          (next_so (logged_uses (change g.S.Store.contents g.S.Store.may_give g.S.Store.count)) turn.now place c.args.id
          c.burst.times (server turn.host.now sessions (c.args.store.now, g.G.Log.logged c.args.log.now))
          (server c.burst.host (slice_set sessions place c.burst.slot_session) (c.burst.store, g.G.Log.logged c.burst.log))
          (server served.host (slice_set sessions place served.self) (served.store, g.G.Log.logged served.log))
          turn.out.now c.burst.out served.out (was.done place sessions within here)
          (placed_so (logged_uses (change g.S.Store.contents g.S.Store.may_give g.S.Store.count)) c.burst.slot_session
          served.self (slice_set sessions place c.burst.slot_session) (slice_set sessions place served.self)
          (c.burst.store, g.G.Log.logged c.burst.log) (served.store, g.G.Log.logged served.log) place c.args.id turn.now
          c.burst.host served.host c.burst.out served.out
          (sym (get_or-set_same sessions place c.burst.slot_session new_serving within))
          (sym (set-set sessions place c.burst.slot_session served.self)) c.serve.ensures));
    }

pub invariant_of-turn : goal.invariant_of-turn
invariant_of-turn g c =
    let turn = c.args.turn.now in
    record {
      room =
          subst (λ (n : ℕ). TURN_ROOM ≤ n)
          (sym (ap (λ (o : OutboxView). o.cap) c.send_all.ensures.empty ∙ c.burst.invariant.cap)) turn.room;
      empty = ap (λ (o : OutboxView). o.packets) c.send_all.ensures.empty;
    }

pub returns : goal.returns
returns g c place sessions there within here =
    let turn = c.args.turn.now in
    let was = c.burst.invariant in (
      slot_so (logged_uses (change g.S.Store.contents g.S.Store.may_give g.S.Store.count)) turn.carriage
          c.args.input.now.mode turn.now place c.args.id c.burst.times
          (server turn.host.now sessions (c.args.store.now, g.G.Log.logged c.args.log.now))
          (server c.burst.host (slice_set sessions place c.burst.slot_session) (c.burst.store, g.G.Log.logged c.burst.log))
          turn.out.now c.burst.out c.send_all.new.out (g.L.Link.queue turn.link.now) (g.L.Link.queue c.send_all.new.link)
          c.send_all.result there turn.empty (was.done place sessions within here) (was.ended c.burst-test.false)
          c.send_all.ensures.sends c.send_all.ensures.empty c.send_all.ensures.told,
      (refl, refl, refl, refl, refl),
    )
