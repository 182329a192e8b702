-- What a delivery comes to, by what the packet's header says.
use Rattle.std.proofs.Common.{◌≡◌, ℕ, true, false, not, Some, refl, ◌∙◌, ap}
use Rattle.std.proofs.lemmas.Bool.{cond-true, cond-false, and_from, eq-eqb}
use Rattle.chaos_packet.specs.declared.opcode.Kind.TheVariants as k
use Rattle.chaos_conn.specs.declared.answers.Why.TheVariants as wh
use Rattle.chaos_packet.specs.Packet.{PacketView}
use Rattle.chaos_packet.specs.Opcode.{kind_of}
use Rattle.chaos_conn.specs.View.{ConnView, heard_at}
use Rattle.chaos_conn.specs.Arriving.{act_deliver, drop_for, repeated_request, deliver_in, may_be_index, is_index}
use Rattle.chaos_conn.specs.State.{is_live}
use Rattle.chaos_packet.specs.Opcode.{is_rfc}

pub act_dead : (v : ConnView) (p : PacketView) (now : ℕ) → is_live v.state ≡ false
    → act_deliver v p now ≡ drop_for v wh.NotOpen
act_dead v p now dead = cond-true _ _ _ (ap not dead)

pub act_rfc : (v : ConnView) (p : PacketView) (now : ℕ) → is_live v.state ≡ true → p.dst ≡ v.me.address → p.src ≡ v.peer
    → kind_of p.op ≡ k.Rfc → v.asked ≡ false → v.peer_index ≡ Some p.src_index → p.num ≡ v.request
    → act_deliver v p now ≡ repeated_request (heard_at v now) v.state
act_rfc v p now live dst src kind asked index number =
    cond-false _ _ _ (ap not live)
    ∙ cond-false _ _ _ (ap not (and_from _ _ (eq-eqb p.dst v.me.address dst) (eq-eqb p.src v.peer src)))
    ∙ cond-true _ _ _ (ap is_rfc kind)
    ∙ cond-false _ _ _ asked
    ∙ cond-false _ _ _ (ap not (ap (λ o. is_index o p.src_index) index ∙ eq-eqb p.src_index p.src_index refl))
    ∙ cond-false _ _ _ (ap not (eq-eqb p.num v.request number))

pub act_other : (v : ConnView) (p : PacketView) (now : ℕ) → is_live v.state ≡ true → p.dst ≡ v.me.address
    → p.src ≡ v.peer → is_rfc (kind_of p.op) ≡ false → p.dst_index ≡ v.me.index
    → may_be_index v.peer_index p.src_index ≡ true → act_deliver v p now ≡ deliver_in v.state v p now
act_other v p now live dst src kind dst_index src_index =
    cond-false _ _ _ (ap not live)
    ∙ cond-false _ _ _ (ap not (and_from _ _ (eq-eqb p.dst v.me.address dst) (eq-eqb p.src v.peer src)))
    ∙ cond-false _ _ _ kind
    ∙ cond-false _ _ _ (ap not (and_from _ _ (eq-eqb p.dst_index v.me.index dst_index) src_index))
