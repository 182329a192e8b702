-- Two lots of packets put out: a command that is read, and its reply.
use Rattle.std.proofs.Common.{◌≡◌, ◌∙◌, ◌+◌, ℕ, List, ◌++◌, ◌≤◌, length, refl, ap, subst, arith, append_assoc, length-append}
use Rattle.chaos_packet.specs.Opcode.{op_data}
use Rattle.chaos_packet.specs.Packet.{PacketView}
use Rattle.chaos_packet.specs.Outbox.{OutboxView, with_put}
use Rattle.chaos_conn.specs.Act.{FinishRead, Write}
use Rattle.chaos_host.specs.Acted.{HostDoes}
use Rattle.chaos_host.specs.Calls.{HostReply, host_call}
use Rattle.chaos_host.specs.View.{HostView}
use Rattle.chaos_file.specs.ServeCalls.{after_reply_at, reply_write_at}
use Rattle.chaos_file.specs.declared.served.Served.TheVariants as served

pub put_twice : (out : OutboxView) (xs ys : List PacketView) → with_put (with_put out xs) ys ≡ with_put out (xs ++ ys)
put_twice out xs ys = ap (λ ps. record { packets = ps; cap = out.cap }) (append_assoc out.packets xs ys)

pub length_both : (xs ys : List PacketView) → length (xs ++ ys) ≡ length xs + length ys
length_both xs ys = length-append xs ys

-- the read of a command and the write of its reply, one after the other, are its answer
pub answered_so : (h m n : HostView) (id : ℕ) (reply : List ℕ) (now : ℕ) (out mid last : OutboxView) (read wrote : HostReply)
    → HostDoes h 1 (host_call h id FinishRead) m out mid read
    → HostDoes m 1 (host_call m id (Write op_data reply now)) n mid last wrote
    → HostDoes h 2 (after_reply_at h id reply now) n out last served.Replied
answered_so h m n id reply now out mid last read wrote first second =
    let then =
    subst (λ (v : HostView). HostDoes v 1 (host_call v id (Write op_data reply now)) n mid last wrote) first.view second in
    let xs = (host_call h id FinishRead).packets in
    let ys = (reply_write_at h id reply now).packets in
    let both : length (xs ++ ys) ≡ length xs + length ys = length_both xs ys in
    let few : length xs ≤ 1 = first.few in
    let few' : length ys ≤ 1 = then.few in
    record {
      view = then.view;
      packets = then.packets ∙ (ap (λ (o : OutboxView). with_put o ys) first.packets ∙ put_twice out xs ys);
      answers = refl;
      few = omega (arith, both, few, few');
      config = second.config ∙ first.config;
      size = second.size ∙ first.size;
    }
