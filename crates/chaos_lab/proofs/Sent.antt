-- What an end may send is right when it is sent.
use Rattle.std.proofs.Common.{List, zero, suc, ◌+◌, ◌<◌, ◌≤◌, length, sym, subst, inl, inr, ⊎_elim, arith}
use Rattle.chaos_lab.specs.declared.side.Side.{Side}
use Rattle.chaos_lab.specs.declared.side.Side.TheVariants.{A, B}
use Rattle.chaos_packet.specs.Item.{ItemView}
use Rattle.chaos_lab.specs.Machine.{PlainEnd, Phase, Kind, Told, Copy, MaySend, Tells}
use Rattle.chaos_lab.specs.Machine.Phase.{Inactive, RfcSent, RfcReceived, Open, Ended, Closed}
use Rattle.chaos_lab.specs.Machine.Kind.{Nth, Sns, Sts, Cls}
use Rattle.chaos_lab.proofs.Directions.{Sound, missing_unread}
use Rattle.chaos_lab.proofs.Copies.{KindOk, ToldOk, TellsMet, CopyOk}
use Rattle.chaos_lab.proofs.Ends.{IsNew, Fits, EndOk, EndHolds}

-- ---- it has met the peer, where it sends more than its first item

-- B wrote something
met_first : (phase : Phase) (e : PlainEnd) → Fits phase B e.written e.read e.arrived → 1 ≤ length e.written
    → 1 ≤ length e.read
met_first Inactive e h l = omega (arith, h.0)
met_first RfcSent e h l = absurd h
met_first RfcReceived e h l = omega (arith, h.0)
met_first Open e h l = h.0
met_first Ended e h l = h.0
met_first Closed e (inl h) l = omega (arith, h.1)
met_first Closed e (inr h) l = h.0

new_few : (x : Side) (w r : List ItemView) → IsNew x w r → length w ≤ 1
new_few A w r h = omega arith
new_few B w r h = omega arith

-- an end wrote more than one item
met_later :
    (phase : Phase) (x : Side) (e : PlainEnd) → Fits phase x e.written e.read e.arrived → 1 < length e.written →
    1 ≤ length e.read
met_later Inactive A e h l = absurd h
met_later Inactive B e h l = omega (arith, h.0)
met_later RfcSent A e h l = omega (arith, h.0)
met_later RfcSent B e h l = absurd h
met_later RfcReceived A e h l = absurd h
met_later RfcReceived B e h l = omega (arith, h.0)
met_later Open x e h l = h.0
met_later Ended A e (inl h) l = omega (arith, h.0)
met_later Ended A e (inr h) l = h.0
met_later Ended B e h l = h.0
met_later Closed x e (inl h) l = omega (arith, new_few x e.written e.read h)
met_later Closed x e (inr h) l = h.0

-- ---- the item and the counts

kind_sent : (kind : Kind) (e p : PlainEnd) → Sound e p → MaySend kind e → KindOk kind e (length e.written)
kind_sent (Nth i) e p d h = (h.1, omega (arith, d.room, d.in_order))
kind_sent Sns e p d h = tt
kind_sent Sts e p d h = tt
kind_sent Cls e p d h = tt

-- what was read is near the end of what the peer wrote
near_read : (e p : PlainEnd) → Sound p e → length p.written ≤ length e.read + p.send_cap
near_read e p d = omega (arith, d.room, d.acked_read)

-- an OPN is sent only until an item with a later index arrived, so while B has read the RFC alone
few_read : (x : Side) (e p : PlainEnd) → Sound p e → EndOk x e → e.receipted ≤ 0 → length e.read ≤ 1
few_read x e p d o h =
    ⊎_elim (λ (t : length e.read ≤ 1). t)
    (λ (t : 1 < length e.read). let r = o.answered 0 (d.front 1 t) in absurd (omega arith)) (grind arith)

told_sent :
    (kind : Kind) (x : Side) (told : Told) (e p : PlainEnd) → Sound p e → EndOk x e → MaySend kind e
    → Tells kind x e told →
    ToldOk told e p (length p.written) × TellsMet kind told
told_sent (Nth zero) A told e p d o m t =
    subst (λ u. ToldOk u e p (length p.written) × TellsMet (Nth zero) u) (sym t) (tt, tt)
told_sent (Nth zero) B told e p d o m t =
    let met = met_first e.phase e o.fits (omega arith) in
    let near = near_read e p d in
    let few = few_read B e p d o m.0 in
    subst (λ u. ToldOk u e p (length p.written) × TellsMet (Nth zero) u) (sym t)
    ((omega arith, near, (λ i h. d.front i (omega arith)), omega arith), tt)
told_sent (Nth (suc i)) x told e p d o m t =
    let met = met_later e.phase x e o.fits (omega arith) in
    subst (λ u. ToldOk u e p (length p.written) × TellsMet (Nth (suc i)) u) (sym t)
    ((omega arith, near_read e p d), met)
told_sent Sns x told e p d o m t =
    subst (λ u. ToldOk u e p (length p.written) × TellsMet Sns u) (sym t) ((omega arith, near_read e p d), tt)
told_sent Sts x told e p d o m t =
    let near = near_read e p d in
    let upto = missing_unread e p t.0 d t.1 in
    subst (λ u. ToldOk u e p (length p.written) × TellsMet Sts u) (sym t.2)
    ((omega arith, near, t.1.0, omega arith), tt)
told_sent Cls x told e p d o m t = subst (λ u. ToldOk u e p (length p.written) × TellsMet Cls u) (sym t) (tt, tt)

-- a copy of the end e at the side x, with its peer p
pub copy_sent :
    (c : Copy) (x : Side) (e p : PlainEnd) → EndHolds x e p → MaySend c.kind e → Tells c.kind x e c.told →
    CopyOk c e p (length e.written) (length p.written)
copy_sent c x e p h may tells =
    let t = told_sent c.kind x c.told e p h.reader h.ok may tells in
    record { kind_ok = kind_sent c.kind e p h.writer may; told_ok = t.0; met = t.1 }
