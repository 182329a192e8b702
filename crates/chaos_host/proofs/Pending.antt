-- A request that waits for its user is the one item that its connection stores.
use Rattle.std.proofs.Common.{◌≡◌, ℕ, zero, suc, ◌≤◌, ◌==◌, ◌||◌, nat_le, nat_lt, Bool, true, false, not, if◌then◌else◌, cond, ◌∷◌, replicate, length, Option, Some, None, is_some, Ok, refl, arith, count_by}
use Rattle.std.proofs.lemmas.List.Sums.{sum_by-cons}
use Rattle.std.proofs.lemmas.Bool.Decides.{nat_tests}
use Rattle.chaos_packet.specs.Item.{ItemView}
use Rattle.chaos_packet.specs.Number.{off}
use Rattle.chaos_packet.specs.Opcode.{kind_of, is_rfc}
use Rattle.chaos_packet.specs.Packet.{PacketView, item_of}
use Rattle.chaos_packet.specs.declared.limits.TheConstants.{MAX_DATA}
use Rattle.chaos_packet.specs.declared.opcode.Kind.{Kind}
use Rattle.chaos_packet.specs.declared.opcode.Kind.TheVariants as kind
use Rattle.chaos_conn.specs.declared.fault.ConnFault.{ConnFault}
use Rattle.chaos_conn.specs.declared.state.End.{End}
use Rattle.chaos_conn.specs.declared.state.State.{State}
use Rattle.chaos_conn.specs.declared.state.State.TheVariants as st
use Rattle.chaos_conn.specs.State.{is_live}
use Rattle.chaos_conn.specs.View.{ConnView, moment}
use Rattle.chaos_conn.specs.Acted.{Acted, quietly}
use Rattle.chaos_conn.specs.Opening.{refusal, after_taking_rfc, closed_conn}
use Rattle.chaos_conn.specs.Arriving.{act_deliver, is_between_hosts, is_between_indices, is_index, after_rfc, deliver_requested, deliver_in}
use Rattle.chaos_conn.specs.Act.{Did, Request, TakeRequest, Accept, Answer, Reject, Deliver, Write, Unc, Read, FinishRead, Announce, Close, Tick}
use Rattle.chaos_conn.specs.Calls.{front_of}
use Rattle.chaos_host.specs.Slot.{HoldsRequest}
use Rattle.chaos_host.specs.Law.{TakesOne, PendingStays}

-- ---- the request is held alone

-- the request comes right after the number last read
offset_one : (x : ℕ) → off x (off x 1) ≡ 1
offset_one x = omega arith

-- empty slots hold nothing
abbrev empty : Option ItemView
empty = None

count_none : (n : ℕ) → count_by is_some (replicate n empty) ≡ 0
count_none zero = refl
count_none (suc n) = omega (arith, sum_by-cons (λ s. cond (is_some s) 1 0) empty (replicate n empty), count_none n)

-- one full slot before them holds one
count_one : (item : ItemView) (n : ℕ) → count_by is_some (Some item ∷ replicate n empty) ≡ 1
count_one item n = omega (arith, sum_by-cons (λ s. cond (is_some s) 1 0) (Some item) (replicate n empty), count_none n)

first_within : (n : ℕ) → nat_le 1 (suc n) ≡ true
first_within n = grind (arith, nat_tests)

pub some_suc : (k : ℕ) → 1 ≤ k → (n : ℕ) × (k ≡ suc n)
some_suc zero h = absurd (omega arith)
some_suc (suc n) h = (n, refl)

-- a request that a closed connection takes is held alone
pub alone : (conn : ConnView) (rfc : PacketView) (me : End) (t n : ℕ) → conn.config.recv_cap ≡ suc n
    → is_rfc (kind_of rfc.op) ≡ true
    → HoldsRequest (after_taking_rfc (closed_conn conn) rfc me t)
    × (front_of (after_taking_rfc (closed_conn conn) rfc me t) ≡ Some (item_of rfc))
alone conn rfc me t n cap asks =
    let one = count_one (item_of rfc) n in
    let request : HoldsRequest (after_taking_rfc (closed_conn conn) rfc me t) = record {
      kept = refl;
      stored = rw (cap, offset_one rfc.num, first_within n) (omega (arith, one));
      front = rw (cap, offset_one rfc.num, first_within n) asks;
    } in
    (request, rw (cap, offset_one rfc.num, first_within n) refl)

-- a request that wasn't refused was taken
taken : (P : ConnView → Type 0) (refuses asks : Bool) (v w : ConnView) (f g : ConnFault) → (asks ≡ true → P w)
    → Did (if refuses then refusal v f else (if asks then quietly w (Ok tt) else refusal v g)).answer ≡ Did (Ok tt)
    → P (if refuses then refusal v f else (if asks then quietly w (Ok tt) else refusal v g)).view
taken P true asks v w f g h e = absurd (cc)
taken P false true v w f g h e = h refl
taken P false false v w f g h e = absurd (cc)

pub takes_one : TakesOne
takes_one conn rfc me now some e =
    let cap = some_suc conn.config.recv_cap some in
    taken (λ c. HoldsRequest c × (front_of c ≡ Some (item_of rfc))) (me.address == 0 || rfc.src == 0)
    (is_rfc (kind_of rfc.op)) (closed_conn conn)
    (after_taking_rfc (closed_conn conn) rfc me (moment (closed_conn conn) now)) _ _
    (alone conn rfc me (moment (closed_conn conn) now) cap.0 cap.1) e

-- ---- and stays so

-- where the request is pending after a call, both windows are as before
abbrev Keeps : {A : Type 0} → ConnView → Acted A → Type 0
Keeps conn acted = acted.view.state ≡ st.RfcReceived → (acted.view.send ≡ conn.send) × (acted.view.recv ≡ conn.recv)

either : {A : Type 0} (conn : ConnView) (b : Bool) (x y : Acted A) → Keeps conn x → Keeps conn y
    → Keeps conn (if b then x else y)
either conn true x y hx hy = hx
either conn false x y hx hy = hy

keeps_requested : (v : ConnView) (p : PacketView) (now : ℕ) (k : Kind) → Keeps v (deliver_requested v p now k)
keeps_requested v p now kind.Rfc h = (refl, refl)
keeps_requested v p now kind.Opn h = (refl, refl)
keeps_requested v p now kind.Cls h = absurd (cc)
keeps_requested v p now kind.Fwd h = (refl, refl)
keeps_requested v p now kind.Ans h = (refl, refl)
keeps_requested v p now kind.Sns h = (refl, refl)
keeps_requested v p now kind.Sts h = (refl, refl)
keeps_requested v p now kind.Los h = absurd (cc)
keeps_requested v p now kind.Lsn h = (refl, refl)
keeps_requested v p now kind.Eof h = (refl, refl)
keeps_requested v p now kind.Unc h = (refl, refl)
keeps_requested v p now kind.Data h = (refl, refl)
keeps_requested v p now kind.Other h = (refl, refl)

keeps_in : (s : State) (v : ConnView) (p : PacketView) (now : ℕ) → s ≡ st.RfcReceived → Keeps v (deliver_in s v p now)
keeps_in st.Inactive v p now e = absurd (cc)
keeps_in st.RfcSent v p now e = absurd (cc)
keeps_in st.RfcReceived v p now e = keeps_requested v p now (kind_of p.op)
keeps_in st.Open v p now e = absurd (cc)
keeps_in st.Answered v p now e = absurd (cc)
keeps_in st.ClsReceived v p now e = absurd (cc)
keeps_in st.LosReceived v p now e = absurd (cc)
keeps_in st.HostDown v p now e = absurd (cc)
keeps_in st.Forwarded v p now e = absurd (cc)

keeps_rfc : (v : ConnView) (p : PacketView) (now : ℕ) → v.state ≡ st.RfcReceived → Keeps v (after_rfc v p now)
keeps_rfc v p now e =
    either v v.asked _ _ (λ h. (refl, refl)) (either v (not (is_index v.peer_index p.src_index)) _ _ (λ h. (refl, refl))
    (either v (not (p.num == v.request)) _ _ (λ h. (refl, refl)) (λ h. rw e (refl, refl))))

keeps_deliver : (v : ConnView) (p : PacketView) (now : ℕ) → v.state ≡ st.RfcReceived → Keeps v (act_deliver v p now)
keeps_deliver v p now e =
    either v (not (is_live v.state)) _ _ (λ h. (refl, refl))
    (either v (not (is_between_hosts v p)) _ _ (λ h. (refl, refl))
    (either v (is_rfc (kind_of p.op)) _ _ (keeps_rfc v p now e)
    (either v (not (is_between_indices v p)) _ _ (λ h. (refl, refl))
    (keeps_in v.state v p now e))))

pub pending_stays : PendingStays
pending_stays v (Request me peer contact start now) e h =
    either v (nat_lt MAX_DATA (length contact)) _ _ (λ k. (refl, refl)) (λ k. rw e (refl, refl)) h
pending_stays v (TakeRequest p me now) e h = rw e (refl, refl)
pending_stays v (Accept start now) e h = let g = rw e at h in absurd (cc)
pending_stays v (Answer bytes) e h =
    either v (nat_lt MAX_DATA (length bytes)) _ _ (λ k. (refl, refl)) (λ k. let g = rw e at k in absurd (cc)) h
pending_stays v (Reject text) e h =
    either v (nat_lt MAX_DATA (length text)) _ _ (λ k. (refl, refl)) (λ k. let g = rw e at k in absurd (cc)) h
pending_stays v (Deliver p now) e h = keeps_deliver v p now e h
pending_stays v (Write op bytes now) e h = rw e (refl, refl)
pending_stays v (Unc bytes) e h = rw e (refl, refl)
pending_stays v Read e h = rw e (refl, refl)
pending_stays v FinishRead e h = rw e (refl, refl)
pending_stays v (Announce window) e h = rw e (refl, refl)
pending_stays v (Close text) e h = either v (nat_lt MAX_DATA (length text)) _ _ (λ k. (refl, refl)) (λ k. absurd (cc)) h
pending_stays v (Tick now) e h = rw e (refl, refl)
