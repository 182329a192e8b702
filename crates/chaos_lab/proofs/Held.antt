-- An item that comes to an open end inside its window is held at its place.
use Rattle.std.proofs.Common.{◌≡◌, ℕ, suc, ◌+◌, ◌<◌, ◌≤◌, List, length, true, false, Some, None, refl, sym, ap, ◌∙◌, subst, inl, ◌⊎◌, ⊎_elim, arith}
use Rattle.std.specs.Prelude.{slice_get}
use Rattle.std.specs.FinSet.{contains}
use Rattle.std.proofs.lemmas.Bool.{cond-true, false≢true}
use Rattle.chaos_packet.specs.Item.{ItemView}
use Rattle.chaos_packet.specs.Opcode.{kind_of, is_rfc}
use Rattle.chaos_packet.specs.Packet.{PacketView, item_of}
use Rattle.chaos_window.specs.Receive.{ReceiveView, item_at, started_receive}
use Rattle.chaos_conn.specs.declared.answers.Delivered.{Delivered}
use Rattle.chaos_conn.specs.declared.answers.Delivered.TheVariants as came
use Rattle.chaos_conn.specs.declared.state.State.TheVariants as st
use Rattle.chaos_conn.specs.View.{ConnView}
use Rattle.chaos_conn.specs.Arriving.{act_deliver}
use Rattle.chaos_conn.specs.Act.Call.{Deliver as DeliverPacket}
use Rattle.chaos_conn.specs.Held.{held_at}
use Rattle.chaos_conn.specs.Names.{Opens, Stays, is_opened}
use Rattle.chaos_conn.proofs.NamesStay.{opens_or_stays}
use Rattle.chaos_lab.specs.declared.side.Side.{Side}
use Rattle.chaos_lab.specs.declared.side.Side.TheVariants.{A, B}
use Rattle.chaos_lab.specs.Machine.{PlainEnd as Plain, Phase, Machine, other, end_of}
use Rattle.chaos_lab.specs.Machine.Phase.{Open, Ended}
use Rattle.chaos_lab.specs.Machine.Event.{Deliver}
use Rattle.chaos_lab.specs.Law.{DeliversInside}
use Rattle.chaos_lab.specs.Shown.{Rest, shown_at, recv_view, recv_shown}
use Rattle.chaos_lab.specs.Laboratory.{LabView, lab_end, with_opened, call_at, after_call}
use Rattle.chaos_lab.specs.Tied.{Ties}
use Rattle.chaos_lab.specs.Plays.{IsCopyTo, ComesHeld}
use Rattle.chaos_lab.proofs.Machines.{reached_holds, end_holds}
use Rattle.chaos_lab.proofs.DeliveryLaw.{arrives}
use Rattle.chaos_lab.proofs.Reading.{CanRead, deliver_stays}
use Rattle.chaos_lab.proofs.RecvTie.{item_is}
use Rattle.chaos_lab.proofs.OnSide.{Outcome, Refuses, Steps, Stepped, conn_at, stands_at, written_at, read_at}
use Rattle.chaos_lab.proofs.CopyTies.{copy_known}
use Rattle.chaos_lab.proofs.HeadlineLaw.{open_at, opened, window_at, kind_at}
use Rattle.chaos_lab.proofs.Plays.{copy_comes}

twice : (x : Side) → other (other x) ≡ x
twice A = refl
twice B = refl

-- ---- the laboratory after the delivery

after_conn : (x : Side) (l : LabView) (p : PacketView) (now : ℕ)
    → conn_at (after_call l x (DeliverPacket p now)) x ≡ (act_deliver (conn_at l x) p now).view
after_conn A l p now = refl
after_conn B l p now = refl

after_peer : (x : Side) (l : LabView) (p : PacketView) (now : ℕ)
    → lab_end (after_call l x (DeliverPacket p now)) (other x) ≡ lab_end l (other x)
after_peer A l p now = refl
after_peer B l p now = refl

after_read : (x : Side) (l : LabView) (p : PacketView) (now : ℕ)
    → (lab_end (after_call l x (DeliverPacket p now)) x).read
    ≡ with_opened (act_deliver (conn_at l x) p now).answer p (lab_end l x).read
after_read A l p now = refl
after_read B l p now = refl

-- an open end isn't opened again
not_opened : (d : Delivered) (p : PacketView) (items : List ItemView) → is_opened d ≡ false
    → with_opened d p items ≡ items
not_opened came.Opened p items h = absurd (false≢true (sym h))
not_opened d p items h = refl

open_stays : (v : ConnView) (p : PacketView) (now : ℕ) → v.state ≡ st.Open
    → is_opened (act_deliver v p now).answer ≡ false
open_stays v p now state =
    ⊎_elim
    (λ (o : Opens v p (act_deliver v p now)). let no : st.Open ≡ st.RfcSent = sym state ∙ o.asked in absurd (cc))
    (λ (s : Stays v p (act_deliver v p now)). s.opened)
    (opens_or_stays v p now)

comes : (x : Side) (w : Machine) (l : LabView) (p : PacketView) (now : ℕ) → Ties w l → is_rfc (kind_of p.op) ≡ false
    → (c : IsCopyTo l x p) → Stepped w (Deliver c.number) (after_call l x (DeliverPacket p now))
comes x w l p now t no_rfc c = by (copy_comes x w l p now t no_rfc c)
  where
    by : Outcome w (Deliver c.number) l (call_at l x (DeliverPacket p now))
        → Stepped w (Deliver c.number) (after_call l x (DeliverPacket p now))
    by (Refuses why r) = absurd (let no = ap (λ d. d.answer) r in cc)
    by (Steps k) = k

-- ---- what it shows of an end that can read

recv_of : (phase : Phase) (x : Side) (rest : Rest) (b b' : ℕ) (p e : Plain) → CanRead phase
    → (shown_at phase x rest b b' p e).recv ≡ recv_shown b' p e
recv_of phase x rest b b' p e may =
    ⊎_elim
    (λ (t : phase ≡ Open). ap (λ ph. (shown_at ph x rest b b' p e).recv) t)
    (λ (t : phase ≡ Ended). ap (λ ph. (shown_at ph x rest b b' p e).recv) t)
    may

-- the item of the peer at the index that lies so many places past what was read
held_is : (b' place : ℕ) (p e : Plain) → contains e.arrived 0 ≡ true → place < e.recv_cap
    → contains e.arrived (length e.read + place) ≡ true
    → item_at (recv_shown b' p e) (place + 1) ≡ slice_get p.written (length e.read + place)
held_is b' place p e first within here =
    let next : place + 1 ≡ suc place = omega arith in
    ap (λ (r : ReceiveView). item_at r (place + 1))
    (cond-true (contains e.arrived 0) (recv_view b' p e) (started_receive e.recv_cap 0) first)
    ∙ ap (item_at (recv_view b' p e)) next
    ∙ item_is b' p e place within
    ∙ cond-true (contains e.arrived (length e.read + place)) (slice_get p.written (length e.read + place)) None here

pub comes_held : ComesHeld
comes_held l x p now i place h no_rfc c of_item state inside at =
    let w : Machine = h.plain in
    let t = h.ties in
    let m : LabView = after_call l x (DeliverPacket p now) in
    let k = comes x w l p now t no_rfc c in
    let e : Plain = end_of k.machine x in
    let peer : Plain = end_of k.machine (other x) in
    let is = open_at x w l t state in
    let d = copy_known w l c.number c.copy t c.there c.fresh in
    let read : length (lab_end l x).read ≡ length (end_of w x).read = ap length (read_at x w l t) in
    let window : (conn_at l x).recv.window ≡ (end_of w x).announced = window_at x w l t is in
    let delivers : DeliversInside w (other x) i k.machine = record {
      number = c.number;
      copy = d.0;
      sent = d.2.there;
      sender = sym d.1 ∙ c.side;
      kind = kind_at c.copy.side w l c.number c.copy i d.0 t (sym d.1) d.2 of_item;
      open_end = ap (λ y. (end_of w y).phase) (twice x) ∙ is;
      inside =
          subst (λ y. i < length (end_of w y).read + (end_of w y).announced) (sym (twice x))
          (omega (arith, inside, read, window));
      step = k.step;
    } in
    let there =
    subst (λ y. (i < length (end_of k.machine y).read) ⊎ (contains (end_of k.machine y).arrived i ≡ true)) (twice x)
    (arrives w k.machine (other x) i t.tied.reached delivers) in
    let same_read : (lab_end m x).read ≡ (lab_end l x).read =
    after_read x l p now
    ∙ not_opened (act_deliver (conn_at l x) p now).answer p (lab_end l x).read
    (open_stays (conn_at l x) p now state) in
    let later : length (lab_end l x).read ≡ length e.read = ap length (sym same_read ∙ read_at x k.machine m k.ties) in
    let sound = (end_holds k.machine x (reached_holds k.machine k.ties.tied.reached)).reader in
    let some : 1 ≤ length (lab_end l x).read = opened l x h state in
    let here : contains e.arrived i ≡ true =
    ⊎_elim (λ (early : i < length e.read). absurd (omega (arith, early, later, at)))
    (λ (a : contains e.arrived i ≡ true). a) there in
    let index : length e.read + place ≡ i = omega (arith, later, at) in
    let shows = stands_at x k.machine m k.ties in
    let may = deliver_stays w c.number k.machine x k.step (inl is) in
    let within : place < e.recv_cap = let last = sound.inside i here in omega (arith, last, later, at) in
    let first : contains e.arrived 0 ≡ true = sound.front 0 (omega (arith, some, later)) in
    ap (λ (v : ConnView). held_at v place) (sym (after_conn x l p now))
    ∙ ap (λ (v : ConnView). held_at v place) shows.2
    ∙ ap (λ (r : ReceiveView). item_at r (place + 1)) (recv_of e.phase x shows.0 _ _ peer e may)
    ∙ held_is _ place peer e first within (ap (λ (n : ℕ). contains e.arrived n) index ∙ here)
    ∙ ap (slice_get peer.written) index
    ∙ ap (λ (ws : List ItemView). slice_get ws i)
    (sym (written_at (other x) k.machine m k.ties) ∙ ap (λ f. f.written) (after_peer x l p now))
    ∙ ap (λ y. slice_get (lab_end l y).written i) (sym c.side)
    ∙ of_item.item
    ∙ ap (λ (q : PacketView). Some (item_of q)) c.packet
