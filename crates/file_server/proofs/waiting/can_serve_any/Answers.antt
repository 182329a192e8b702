use Rattle.std.proofs.Common.{ℕ, Bool, ◌<◌, suc, length, add-one, arith, sym, ◌∙◌}
use Rattle.chaos_host.specs.View.{id_at}
use Rattle.chaos_node.proofs.Any.{any_here, any_none, any_on, any_to}
use Rattle.file_server.specs.Waiting.{serves_by}
use Rattle.file_server.proofs.Free.{serves_free}
use Rattle.file_server.proofs.waiting.can_serve_any.Goals as goal

pub returns-then-serves_at : goal.returns-then-serves_at
returns-then-serves_at c =
    let host = c.args.host.now in
    let place = c.in-Some.place in
    let serves : ℕ → Bool = λ n. serves_by host (id_at host n) in
    let within : place < length host.slots = c.in-Some.ensures.next.within in
    sym (any_on serves (suc place) (length host.slots) (omega (arith, within))
    (any_here serves place (sym c.serves_at.ensures ∙ c.if-serves_at.true)))

pub slots-preserved : goal.slots-preserved
slots-preserved c =
    let host = c.args.host.now in
    let place = c.in-Some.place in
    let serves : ℕ → Bool = λ n. serves_by host (id_at host n) in
    let next = c.in-Some.ensures.next in
    let within : place < length host.slots = next.within in
    record {
      within = omega (arith, within);
      none =
          rw (add-one place)
          (any_none serves place
          (any_to serves c.slots.from place next.behind (λ k from under. serves_free host k (next.free k from under))
          ∙ c.slots.invariant.none)
          (sym c.serves_at.ensures ∙ c.if-serves_at.false));
    }

pub returns : goal.returns
returns c =
    let host = c.args.host.now in
    let serves : ℕ → Bool = λ n. serves_by host (id_at host n) in
    sym (any_to serves c.slots.from (length host.slots) c.slots.invariant.within
    (λ k behind below. serves_free host k (c.in_default.ensures.next k behind))
    ∙ c.slots.invariant.none)
