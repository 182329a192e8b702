use Rattle.std.proofs.Common.{drop, length-drop, subst, arith}
use Rattle.chaosd_io.specs.Escapes.{ReadsFront}
use Rattle.chaosd_io.proofs.TextBytes.{rest_whole, front_read, byte_end}
use Rattle.chaosd_io.proofs.escapes.read_data.Goals as goal

-- some bytes more
pub loop-i-preserved : goal.loop-i-preserved
loop-i-preserved c =
    let text = c.args.text.now in
    let i = c.loop-i.i in
    let n = c.in_ok-i.field-0 in
    let after = c.read_some.new.bytes.items in
    let read : ReadsFront c.loop-i.bytes.items (drop i text) after n =
    subst (λ l. ReadsFront c.loop-i.bytes.items l after n) (rest_whole text i) c.in_ok-i.ensures.read in
    record {
      within = omega (arith, read.within, length-drop i text);
      room = c.in_ok-i.ensures.room;
      value = front_read text c.loop-i.bytes.items after i n read.value c.loop-i.invariant.value;
    }

pub returns : goal.returns
returns c =
    byte_end c.args.text.now c.loop-i.bytes.items c.loop-i.i (omega arith) c.loop-i.invariant.room
    c.loop-i.invariant.value
