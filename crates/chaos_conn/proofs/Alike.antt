-- Connections that differ in their names alone do the same.
use Rattle.std.proofs.Common.{◌≡◌, ℕ, ◌*◌, Bool, true, false, ◌&&◌, not, if◌then◌else◌, List, [], ◌∷◌, map, length, nat_lt, nat_le, Option, Some, None, refl, sym, ap, ◌∙◌}
use Rattle.std.proofs.lemmas.Bool.{eq-eqb, false≢true}
use Rattle.chaos_packet.specs.Item.{ItemView}
use Rattle.chaos_packet.specs.Number.{num}
use Rattle.chaos_packet.specs.Opcode.{kind_of, is_rfc}
use Rattle.chaos_packet.specs.Packet.{PacketView, status_of, item_of}
use Rattle.chaos_packet.specs.declared.opcode.Kind.{Kind}
use Rattle.chaos_packet.specs.declared.opcode.Kind.TheVariants as kind
use Rattle.chaos_window.specs.Receive.{arrival_of}
use Rattle.chaos_window.specs.declared.arrival.Arrived.{Arrived}
use Rattle.chaos_window.specs.declared.arrival.Arrived.TheVariants as arr
use Rattle.chaos_conn.specs.declared.state.State.{State}
use Rattle.chaos_conn.specs.declared.state.State.TheVariants as st
use Rattle.chaos_conn.specs.declared.time.Due.{Due}
use Rattle.chaos_conn.specs.declared.time.Due.TheVariants as due
use Rattle.chaos_conn.specs.State.{is_live, is_open, is_opening, is_requested}
use Rattle.chaos_conn.specs.View.{ConnView, moment}
use Rattle.chaos_conn.specs.Acted.{Acted, map_answer}
use Rattle.chaos_conn.specs.Sending.{carries_ack, packets_from, item_packet}
use Rattle.chaos_conn.specs.Time.{act_tick, ticked_by, due_of, at_moment}
use Rattle.chaos_conn.specs.Opening.{act_accept}
use Rattle.chaos_conn.specs.Calls.{act_write, write_at_most, write_item, most_bytes, has_window, act_read, read_at_open, read_open, read_at_end, front_of, act_announce, done_of}
use Rattle.chaos_conn.specs.Arriving.{is_between_hosts, is_between_indices, may_be_index, deliver_in, deliver_open, deliver_asking, deliver_requested, after_opn_telling, after_second_opn_telling, after_sts_telling, after_arrived, heard_with_ack}
use Rattle.chaos_conn.specs.Act.Call.{Request, TakeRequest, Accept, Answer, Reject, Deliver, Write, Unc, Read, FinishRead, Announce, Close, Tick}
use Rattle.chaos_conn.specs.Act.Reply.{Did, Wrote, Gave, Finished, Ticks}
use Rattle.chaos_conn.specs.declared.answers.ReadEnd.{ReadEnd}
use Rattle.chaos_conn.specs.Names.{Names, known_as, renamed, renamed_packet, renamed_in, renamed_acted, ActsAlike, ComesAlike}

-- both calls go the same way
either : {A B : Type 0} (f : A → B) (b : Bool) (x y : A) (u v : B) → u ≡ f x → v ≡ f y
    → (if b then u else v) ≡ f (if b then x else y)
either f true x y u v p q = p
either f false x y u v p q = q

-- ---- the user's calls

write_item_alike : (n : Names) (v : ConnView) (item : ItemView) (t : ℕ)
    → write_item (renamed n v) item t ≡ renamed_acted n (write_item v item t)
write_item_alike n v item t = either (renamed_acted n) (has_window v.send) _ _ _ _ refl refl

at_most_alike : (n : Names) (v : ConnView) (most : Option ℕ) (item : ItemView) (t : ℕ)
    → write_at_most (renamed n v) most item t ≡ renamed_acted n (write_at_most v most item t)
at_most_alike n v None item t = refl
at_most_alike n v (Some most) item t =
    either (renamed_acted n) (nat_lt most (length item.body)) _ _ _ _ refl (write_item_alike n v item t)

write_alike : (n : Names) (v : ConnView) (op : ℕ) (bytes : List ℕ) (now : ℕ)
    → act_write (renamed n v) op bytes now ≡ renamed_acted n (act_write v op bytes now)
write_alike n v op bytes now =
    either (renamed_acted n) (is_open v.state) _ _ _ _
    (at_most_alike n v (most_bytes (kind_of op)) (record { op = op; body = bytes }) (moment v now)) refl

accept_alike : (n : Names) (v : ConnView) (start now : ℕ)
    → act_accept (renamed n v) start now ≡ renamed_acted n (act_accept v start now)
accept_alike n v start now = either (renamed_acted n) (is_requested v.state) _ _ _ _ refl refl

read_open_alike : (n : Names) (v : ConnView) (item : ItemView)
    → read_open (renamed n v) item ≡ renamed_acted n (read_open v item)
read_open_alike n v item = either (renamed_acted n) (nat_le v.recv.window (3 * v.untold)) _ _ _ _ refl refl

at_open_alike : (n : Names) (v : ConnView) (front : Option ItemView)
    → read_at_open (renamed n v) front ≡ renamed_acted n (read_at_open v front)
at_open_alike n v None = refl
at_open_alike n v (Some item) = read_open_alike n _ item

at_end_alike : (n : Names) (v : ConnView) (front : Option ItemView)
    → read_at_end (renamed n v) front ≡ renamed_acted n (read_at_end v front)
at_end_alike n v None = refl
at_end_alike n v (Some item) = refl

read_alike : (n : Names) (v : ConnView) → act_read (renamed n v) ≡ renamed_acted n (act_read v)
read_alike n v =
    either (renamed_acted n) (is_opening v.state) _ _ _ _ refl
    (either (renamed_acted n) (is_open v.state) _ _ _ _ (at_open_alike n v (front_of v))
    (at_end_alike n v (front_of v)))

announce_alike : (n : Names) (v : ConnView) (window : ℕ)
    → act_announce (renamed n v) window ≡ renamed_acted n (act_announce v window)
announce_alike n v window =
    either (renamed_acted n) (is_open v.state) _ _ _ _
    (either (renamed_acted n) (nat_lt v.config.recv_cap window) _ _ _ _ refl refl) refl

-- ---- a tick

kept_alike : (n : Names) (v : ConnView) (number : ℕ) (items : List ItemView)
    → packets_from (renamed n v) number items ≡ map (renamed_packet n v.peer_index) (packets_from v number items)
kept_alike n v number [] = refl
kept_alike n v number (item ∷ items) =
    ap (λ ps. renamed_packet n v.peer_index (item_packet v number item) ∷ ps) (kept_alike n v (num number 1) items)

ticked_alike : (n : Names) (v : ConnView) (d : Due) → ticked_by d (renamed n v) ≡ renamed_acted n (ticked_by d v)
ticked_alike n v due.HostDown = refl
ticked_alike n v due.Resend =
    λ j. record (renamed_acted n (ticked_by due.Resend v))
    { packets = kept_alike n v (num v.send.receipted 1) v.send.kept j }
ticked_alike n v due.Probe = refl
ticked_alike n v due.Nothing = refl

tick_alike : (n : Names) (v : ConnView) (now : ℕ) → act_tick (renamed n v) now ≡ renamed_acted n (act_tick v now)
tick_alike n v now = ticked_alike n (at_moment v now) (due_of (at_moment v now))

pub acts_alike : ActsAlike
acts_alike n v (Accept start now) h = ap (map_answer Did) (accept_alike n v start now)
acts_alike n v (Write op bytes now) h = ap (map_answer Wrote) (write_alike n v op bytes now)
acts_alike n v Read h = ap (map_answer Gave) (read_alike n v)
acts_alike n v FinishRead h = ap (λ (a : Acted ReadEnd). map_answer Finished (map_answer done_of a)) (read_alike n v)
acts_alike n v (Announce window) h = ap (map_answer Did) (announce_alike n v window)
acts_alike n v (Tick now) h = ap (map_answer Ticks) (tick_alike n v now)
acts_alike n v (Request me peer contact start now) h = absurd (false≢true h)
acts_alike n v (TakeRequest rfc me now) h = absurd (false≢true h)
acts_alike n v (Answer bytes) h = absurd (false≢true h)
acts_alike n v (Reject text) h = absurd (false≢true h)
acts_alike n v (Deliver packet now) h = absurd (false≢true h)
acts_alike n v (Unc bytes) h = absurd (false≢true h)
acts_alike n v (Close text) h = absurd (false≢true h)

-- ---- a packet that carries an acknowledgement

opn_alike : (n : Names) (v : ConnView) (p : PacketView) (now : ℕ) (told : Option (ℕ × ℕ))
    → after_opn_telling (renamed n v) (renamed_in n p) now told ≡ renamed_acted n (after_opn_telling v p now told)
opn_alike n v p now None = refl
opn_alike n v p now (Some told) = refl

second_opn_alike : (n : Names) (v : ConnView) (p : PacketView) (now : ℕ) (told : Option (ℕ × ℕ))
    → after_second_opn_telling (renamed n v) (renamed_in n p) now told
    ≡ renamed_acted n (after_second_opn_telling v p now told)
second_opn_alike n v p now None = refl
second_opn_alike n v p now (Some told) = refl

sts_alike : (n : Names) (v : ConnView) (p : PacketView) (now : ℕ) (told : Option (ℕ × ℕ))
    → after_sts_telling (renamed n v) (renamed_in n p) now told ≡ renamed_acted n (after_sts_telling v p now told)
sts_alike n v p now None = refl
sts_alike n v p now (Some told) = refl

arrived_alike : (n : Names) (v : ConnView) (a : Arrived) (number : ℕ) (item : ItemView)
    → after_arrived (renamed n v) a number item ≡ renamed_acted n (after_arrived v a number item)
arrived_alike n v arr.Took number item = refl
arrived_alike n v arr.Duplicate number item = refl
arrived_alike n v arr.Outside number item = refl

asking_alike : (n : Names) (v : ConnView) (p : PacketView) (now : ℕ) (k : Kind) → carries_ack k ≡ true
    → deliver_asking (renamed n v) (renamed_in n p) now k ≡ renamed_acted n (deliver_asking v p now k)
asking_alike n v p now kind.Opn h = opn_alike n v p now (status_of p)
asking_alike n v p now kind.Rfc h = absurd (false≢true h)
asking_alike n v p now kind.Cls h = absurd (false≢true h)
asking_alike n v p now kind.Fwd h = absurd (false≢true h)
asking_alike n v p now kind.Ans h = absurd (false≢true h)
asking_alike n v p now kind.Sns h = refl
asking_alike n v p now kind.Sts h = refl
asking_alike n v p now kind.Los h = absurd (false≢true h)
asking_alike n v p now kind.Lsn h = absurd (false≢true h)
asking_alike n v p now kind.Eof h = refl
asking_alike n v p now kind.Unc h = absurd (false≢true h)
asking_alike n v p now kind.Data h = refl
asking_alike n v p now kind.Other h = absurd (false≢true h)

requested_alike : (n : Names) (v : ConnView) (p : PacketView) (now : ℕ) (k : Kind) → carries_ack k ≡ true
    → deliver_requested (renamed n v) (renamed_in n p) now k ≡ renamed_acted n (deliver_requested v p now k)
requested_alike n v p now kind.Opn h = refl
requested_alike n v p now kind.Rfc h = absurd (false≢true h)
requested_alike n v p now kind.Cls h = absurd (false≢true h)
requested_alike n v p now kind.Fwd h = absurd (false≢true h)
requested_alike n v p now kind.Ans h = absurd (false≢true h)
requested_alike n v p now kind.Sns h = refl
requested_alike n v p now kind.Sts h = refl
requested_alike n v p now kind.Los h = absurd (false≢true h)
requested_alike n v p now kind.Lsn h = absurd (false≢true h)
requested_alike n v p now kind.Eof h = refl
requested_alike n v p now kind.Unc h = absurd (false≢true h)
requested_alike n v p now kind.Data h = refl
requested_alike n v p now kind.Other h = absurd (false≢true h)

open_alike : (n : Names) (v : ConnView) (p : PacketView) (now : ℕ) (k : Kind) → carries_ack k ≡ true
    → deliver_open (renamed n v) (renamed_in n p) now k ≡ renamed_acted n (deliver_open v p now k)
open_alike n v p now kind.Opn h = second_opn_alike n v p now (status_of p)
open_alike n v p now kind.Rfc h = absurd (false≢true h)
open_alike n v p now kind.Cls h = absurd (false≢true h)
open_alike n v p now kind.Fwd h = absurd (false≢true h)
open_alike n v p now kind.Ans h = absurd (false≢true h)
open_alike n v p now kind.Sns h = refl
open_alike n v p now kind.Sts h = sts_alike n v p now (status_of p)
open_alike n v p now kind.Los h = absurd (false≢true h)
open_alike n v p now kind.Lsn h = absurd (false≢true h)
open_alike n v p now kind.Eof h =
    arrived_alike n (heard_with_ack v p now) (arrival_of v.recv p.num) p.num (record { op = p.op; body = [] })
open_alike n v p now kind.Unc h = absurd (false≢true h)
open_alike n v p now kind.Data h = arrived_alike n (heard_with_ack v p now) (arrival_of v.recv p.num) p.num (item_of p)
open_alike n v p now kind.Other h = absurd (false≢true h)

in_alike : (n : Names) (v : ConnView) (p : PacketView) (now : ℕ) (s : State) → carries_ack (kind_of p.op) ≡ true
    → deliver_in s (renamed n v) (renamed_in n p) now ≡ renamed_acted n (deliver_in s v p now)
in_alike n v p now st.RfcSent h = asking_alike n v p now (kind_of p.op) h
in_alike n v p now st.RfcReceived h = requested_alike n v p now (kind_of p.op) h
in_alike n v p now st.Open h = open_alike n v p now (kind_of p.op) h
in_alike n v p now st.Inactive h = refl
in_alike n v p now st.Answered h = refl
in_alike n v p now st.ClsReceived h = refl
in_alike n v p now st.LosReceived h = refl
in_alike n v p now st.HostDown h = refl
in_alike n v p now st.Forwarded h = refl

pub not_rfc : (k : Kind) → carries_ack k ≡ true → is_rfc k ≡ false
not_rfc kind.Rfc h = absurd (false≢true h)
not_rfc kind.Opn h = refl
not_rfc kind.Cls h = refl
not_rfc kind.Fwd h = refl
not_rfc kind.Ans h = refl
not_rfc kind.Sns h = refl
not_rfc kind.Sts h = refl
not_rfc kind.Los h = refl
not_rfc kind.Lsn h = refl
not_rfc kind.Eof h = refl
not_rfc kind.Unc h = refl
not_rfc kind.Data h = refl
not_rfc kind.Other h = refl

both : (a b : Bool) → (a && b) ≡ true → (a ≡ true) × (b ≡ true)
both true b h = (refl, h)
both false b h = absurd (false≢true h)

from_both : (a b : Bool) → a ≡ true → b ≡ true → (a && b) ≡ true
from_both true true p q = refl
from_both true false p q = absurd (false≢true q)
from_both false b p q = absurd (false≢true p)

known_fits : (index : ℕ) (known : Option ℕ) → may_be_index (known_as index known) index ≡ true
known_fits index None = refl
known_fits index (Some k) = eq-eqb index index refl

-- the checks pass
passes : {A : Type 0} (live hosts rfc indices : Bool) (dead stranger request other made : A) → hosts ≡ true
    → rfc ≡ false → indices ≡ true
    → (if not live then dead
    else (if not hosts then stranger else (if rfc then request else (if not indices then other else made))))
    ≡ (if not live then dead else made)
passes true true false true dead stranger request other made p q r = refl
passes false true false true dead stranger request other made p q r = refl
passes live false rfc indices dead stranger request other made p q r = absurd (false≢true p)
passes live true true indices dead stranger request other made p q r = absurd (false≢true (sym q))
passes live true false false dead stranger request other made p q r = absurd (false≢true r)

pub comes_alike : ComesAlike
comes_alike n v p now named ack =
    let parts = both (is_between_hosts v p) (is_between_indices v p) named in
    let rfc = not_rfc (kind_of p.op) ack in
    passes (is_live v.state) _ _ _ _ _ _ _ _
    (from_both _ _ (eq-eqb n.me.address n.me.address refl) (eq-eqb n.peer.address n.peer.address refl)) rfc
    (from_both _ _ (eq-eqb n.me.index n.me.index refl) (known_fits n.peer.index v.peer_index))
    ∙ either (renamed_acted n) (not (is_live v.state)) _ _ _ _ refl (in_alike n v p now v.state ack)
    ∙ ap (renamed_acted n)
    (sym
    (passes (is_live v.state) (is_between_hosts v p) (is_rfc (kind_of p.op)) (is_between_indices v p) _ _ _ _ _
    parts.0 rfc parts.1))
