use Rattle.std.proofs.Common.{rules, ◌≡◌, Bool, ℕ, ◌≤◌, List, ◌++◌, Result, Ok, Err, length, map, ap, sym, ◌∙◌, subst}
use Rattle.chaos_conn.specs.Act.{Call}
use Rattle.chaos_packet.specs.Item.{ItemView}
use Rattle.chaos_packet.specs.Outbox.{OutboxView}
use Rattle.chaos_window.specs.declared.limits.TheConstants.{MAX_WINDOW}
use Rattle.chaos_lab.specs.declared.both_ends.BothEnds.{BothEnds}
use Rattle.chaos_packet.specs.Packet.{PacketView}
use Rattle.chaos_lab.specs.declared.event.StepDone.{StepDone}
use Rattle.chaos_lab.specs.declared.event.Stepped.{Stepped}
use Rattle.chaos_lab.specs.declared.fault.LabFault.{LabFault}
use Rattle.chaos_lab.specs.declared.side.Side.{Side}
use Rattle.chaos_lab.specs.declared.stamped.Stamped.{Stamped}
use Rattle.chaos_lab.specs.Calling.{call_of, told_of, items_in, packet_in}
use Rattle.chaos_lab.specs.Inside.{end_view, happening_of}
use Rattle.chaos_lab.specs.Laboratory.{Calls, EndView, Happening, LabView, lab_end, stamp}
use Rattle.chaos_lab.specs.Makes.{MakesAt, read_at}
use Rattle.chaos_lab.specs.Sound.{lab_view}
use Rattle.chaos_lab.specs.Told.{in_full}
use Rattle.chaos_lab.proofs.rig.Rig.step.Goals as goal
use Rattle.chaos_lab.proofs.Happening.{call_happens}
use Rattle.chaos_lab.proofs.Made.{calls_taken, lab_with, makes_at_err}

-- a refused call changes nothing
pub invariant_of-self-in_err-done : goal.invariant_of-self-in_err-done
invariant_of-self-in_err-done c =
    let x : Side = c.in_ok-target.target.side in
    let event : Happening = happening_of c.args.event.now in
    let came : PacketView = c.target_of.new.place in
    let err = ap (told_of event came (read_at x c.call.new.self)) c.in_err-done.was in
    let same = makes_at_err _ _ _ _ _ _ _ c.in_err-done.field-0.0 err c.call.ensures in
    let grown = c.in_ok-grow.ensures.ends in
    let sound = c.self.invariant in
    record {
      empty = ap (λ (o : OutboxView). o.packets) same.packets;
      cap = subst (λ (o : OutboxView). MAX_WINDOW ≤ o.cap) (sym same.packets) sound.cap;
      window_a = subst (λ (e : EndView). e.conn.config.send_cap ≤ MAX_WINDOW) (sym (same.a ∙ grown.0)) sound.window_a;
      window_b = subst (λ (e : EndView). e.conn.config.send_cap ≤ MAX_WINDOW) (sym (same.b ∙ grown.1)) sound.window_b;
    }

pub returns-in_err-done : goal.returns-in_err-done
returns-in_err-done c =
    let x : Side = c.in_ok-target.target.side in
    let asks : Bool = c.in_ok-target.target.asks in
    let event : Happening = happening_of c.args.event.now in
    let came : PacketView = c.target_of.new.place in
    let call : ℕ → Call = call_of event asks came in
    let l : LabView = c.args.self.now in
    let why : LabFault = c.in_err-done.field-0.0 in
    let err = ap (told_of event came (read_at x c.call.new.self)) c.in_err-done.was in
    let same = makes_at_err _ _ _ _ _ _ _ why err c.call.ensures in
    let grown = c.in_ok-grow.ensures.ends in
    let view : l ≡ lab_view c.self.inside = sym c.self.view_is in
    let answer = same.answer l (ap (λ k. k.a) view ∙ sym grown.0) (ap (λ k. k.b) view ∙ sym grown.1) in
    let result : c.from_residual-in_err-done.result ≡ Err why = search rules in
    let lab : l ≡ lab_view (record c.self.inside { ends = c.call.new.self; copies = c.grow.new.copies; out = c.call.new.out }) =
    view
    ∙ (λ j. record (lab_view c.self.inside) {
      a = sym (same.a ∙ grown.0) j;
      b = sym (same.b ∙ grown.1) j;
      copies = sym c.in_ok-grow.ensures.copies j;
    }) in
    call_happens l _ event x asks came c.from_residual-in_err-done.result c.in_ok-target.ensures.found
    (subst
    (λ (z : LabView × ℕ × Result StepDone LabFault). Calls l x (call z.1) z.0 (told_of event came (lab_end z.0 x).read z.2))
    (λ j. (lab j, ap (λ k. k.clock) (sym view) j, sym result j))
    (subst (Calls l x (call c.self.inside.clock) l) err answer))

-- one that is taken, and what it did
pub returns : goal.returns
returns c =
    let x : Side = c.in_ok-target.target.side in
    let asks : Bool = c.in_ok-target.target.asks in
    let event : Happening = happening_of c.args.event.now in
    let came : PacketView = c.target_of.new.place in
    let call : ℕ → Call = call_of event asks came in
    let l : LabView = c.args.self.now in
    let ends : BothEnds = c.call.new.self in
    let out : OutboxView = c.call.new.out in
    let s : List ItemView → Stepped = λ items. in_full (packet_in event came) (items_in event items) c.in_ok-done.done in
    let grown = c.in_ok-grow.ensures in
    let view : l ≡ lab_view c.self.inside = sym c.self.view_is in
    let made =
    subst (λ now. MakesAt x (call now) c.grow.new.ends ends c.self.inside.out out (Ok (s (read_at x ends))))
    (ap (λ k. k.clock) (sym view)) c.in_ok-done.ensures in
    let sent : List Stamped =
    map (stamp x (length ends.a.written.list.items) (length ends.b.written.list.items)) out.packets in
    call_happens l _ event x asks came (Ok c.in_ok-done.done) c.in_ok-target.ensures.found
    (calls_taken x (call l.clock) c.grow.new.ends ends c.self.inside.out out s l _ made
    (ap (λ k. k.a) view ∙ sym grown.ends.0) (ap (λ k. k.b) view ∙ sym grown.ends.1)
    ((λ j. record (lab_view c.self.inside) {
      a = end_view ends.a;
      b = end_view ends.b;
      copies = (c.post.ensures.copies ∙ ap (λ cs. cs ++ sent) grown.copies) j;
      asked = c.noted-asked.ensures.asked came j;
      clock = c.noted-asked.ensures.clock came j;
    })
    ∙ ap (λ k. lab_with k x (call k.clock) ends out) (sym view)))
