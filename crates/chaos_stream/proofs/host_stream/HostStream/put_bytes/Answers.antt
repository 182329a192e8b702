use Rattle.std.proofs.Common.{Ok}
use Rattle.chaos_host.specs.Slot.{named_slot}
use Rattle.chaos_stream.specs.HostWriting.{PutsBytes}
use Rattle.chaos_stream.proofs.HostNamed.{did_found, looked_there}
use Rattle.chaos_stream.proofs.HostLeaving.{looks_after_bytes}
use Rattle.chaos_stream.proofs.host_stream.HostStream.put_bytes.Goals as goal

pub returns-clause-looks : goal.returns-clause-looks
returns-clause-looks c =
    let s = c.self.inside in
    let host = c.args.host.now in
    let put = c.put_named in
    let found = named_slot host.slots s.id in
    let there = looked_there (λ conn. conn) found c.in_ok-conn.field-0.now c.in_ok-conn.ensures in
    let did =
    did_found (PutsBytes c.args.out.now c.args.bytes.now c.args.now put.new.out) host s.id put.new.host
    c.args.out.now put.new.out put.result found there put.ensures.does in
    rw (← c.self.view_is)
    (looks_after_bytes host put.new.host s.id s.place c.args.out.now put.new.out c.args.bytes.now c.args.now
    (Ok put.result) did)
