-- An end is opened by an OPN alone, and only where it asked.
use Rattle.std.proofs.Common.{◌≡◌, ℕ, not, ◌==◌, List, [], Option, Some, None, refl}
use Rattle.std.specs.Prelude.{⊤}
use Rattle.std.proofs.lemmas.Bool.{cond_both}
use Rattle.chaos_packet.specs.Item.{ItemView}
use Rattle.chaos_packet.specs.Packet.{PacketView, status_of, item_of}
use Rattle.chaos_packet.specs.Opcode.{kind_of}
use Rattle.chaos_packet.specs.declared.opcode.Kind.{Kind}
use Rattle.chaos_packet.specs.declared.opcode.Kind.TheVariants as k
use Rattle.chaos_window.specs.Receive.{arrival_of}
use Rattle.chaos_window.specs.declared.arrival.Arrived.{Arrived}
use Rattle.chaos_window.specs.declared.arrival.Arrived.TheVariants as arr
use Rattle.chaos_conn.specs.declared.state.State.{State}
use Rattle.chaos_conn.specs.declared.state.State.TheVariants as st
use Rattle.chaos_conn.specs.declared.answers.Delivered.{Delivered}
use Rattle.chaos_conn.specs.declared.answers.Delivered.TheVariants as de
use Rattle.chaos_conn.specs.State.{is_live}
use Rattle.chaos_conn.specs.View.{ConnView, heard_at}
use Rattle.chaos_conn.specs.Acted.{Acted}
use Rattle.chaos_packet.specs.Opcode.{is_rfc}
use Rattle.chaos_conn.specs.Arriving.{act_deliver, after_rfc, is_index, repeated_request, deliver_in, deliver_asking, deliver_requested, deliver_open, is_between_hosts, is_between_indices, after_second_opn_telling, after_sts_telling, after_arrived, heard_with_ack}
use Rattle.chaos_lab.specs.Laboratory.{with_opened}

abbrev pub NotOpened : Delivered → Type 0
NotOpened de.Opened = ⊥
NotOpened _ = ⊤

abbrev Shut : Acted Delivered → Type 0
Shut acted = NotOpened acted.answer

shut_request : (s : State) (v : ConnView) → Shut (repeated_request v s)
shut_request st.Open v = tt
shut_request _ v = tt

shut_rfc : (v : ConnView) (p : PacketView) (now : ℕ) → Shut (after_rfc v p now)
shut_rfc v p now =
    cond_both v.asked _ _ Shut (λ _. tt) (λ _.
    cond_both (not (is_index v.peer_index p.src_index)) _ _ Shut (λ _. tt) (λ _.
    cond_both (not (p.num == v.request)) _ _ Shut (λ _. tt) (λ _. shut_request v.state (heard_at v now))))

shut_asking : (v : ConnView) (p : PacketView) (now : ℕ) (kind : Kind) → (kind ≡ k.Opn → ⊥)
    → Shut (deliver_asking v p now kind)
shut_asking v p now k.Opn h = absurd (h refl)
shut_asking v p now k.Ans h = tt
shut_asking v p now k.Fwd h = tt
shut_asking v p now k.Cls h = tt
shut_asking v p now k.Los h = tt
shut_asking v p now _ h = tt

shut_requested : (v : ConnView) (p : PacketView) (now : ℕ) (kind : Kind) → Shut (deliver_requested v p now kind)
shut_requested v p now k.Cls = tt
shut_requested v p now k.Los = tt
shut_requested v p now _ = tt

shut_arrived : (v : ConnView) (a : Arrived) (n : ℕ) (item : ItemView) → Shut (after_arrived v a n item)
shut_arrived v arr.Took n item = tt
shut_arrived v arr.Duplicate n item = tt
shut_arrived v arr.Outside n item = tt

shut_opn : (v : ConnView) (p : PacketView) (now : ℕ) (o : Option (ℕ × ℕ)) → Shut (after_second_opn_telling v p now o)
shut_opn v p now None = tt
shut_opn v p now (Some told) = tt

shut_sts : (v : ConnView) (p : PacketView) (now : ℕ) (o : Option (ℕ × ℕ)) → Shut (after_sts_telling v p now o)
shut_sts v p now None = tt
shut_sts v p now (Some told) = tt

shut_open : (v : ConnView) (p : PacketView) (now : ℕ) (kind : Kind) → Shut (deliver_open v p now kind)
shut_open v p now k.Data =
    shut_arrived (heard_with_ack v p now) (arrival_of (heard_with_ack v p now).recv p.num) p.num (item_of p)
shut_open v p now k.Eof =
    shut_arrived (heard_with_ack v p now) (arrival_of (heard_with_ack v p now).recv p.num) p.num
    (record { op = p.op; body = [] })
shut_open v p now k.Opn = shut_opn v p now (status_of p)
shut_open v p now k.Sns = tt
shut_open v p now k.Sts = shut_sts v p now (status_of p)
shut_open v p now k.Unc = tt
shut_open v p now k.Cls = tt
shut_open v p now k.Los = tt
shut_open v p now _ = tt

shut_in : (s : State) (v : ConnView) (p : PacketView) (now : ℕ) → (s ≡ st.RfcSent → kind_of p.op ≡ k.Opn → ⊥)
    → Shut (deliver_in s v p now)
shut_in st.RfcSent v p now h = shut_asking v p now (kind_of p.op) (h refl)
shut_in st.RfcReceived v p now h = shut_requested v p now (kind_of p.op)
shut_in st.Open v p now h = shut_open v p now (kind_of p.op)
shut_in _ v p now h = tt

pub not_opened : (v : ConnView) (p : PacketView) (now : ℕ) → (v.state ≡ st.RfcSent → kind_of p.op ≡ k.Opn → ⊥)
    → NotOpened (act_deliver v p now).answer
not_opened v p now h =
    cond_both (not (is_live v.state)) _ _ Shut (λ _. tt) (λ _.
    cond_both (not (is_between_hosts v p)) _ _ Shut (λ _. tt) (λ _.
    cond_both (is_rfc (kind_of p.op)) _ _ Shut (λ _. shut_rfc v p now) (λ _.
    cond_both (not (is_between_indices v p)) _ _ Shut (λ _. tt) (λ _. shut_in v.state v p now h))))

-- and then nothing was read
pub nothing_opened : (d : Delivered) (p : PacketView) (items : List ItemView) → NotOpened d
    → with_opened d p items ≡ items
nothing_opened de.Opened p items h = absurd h
nothing_opened _ p items h = refl
