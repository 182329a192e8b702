-- What a connection stores while it is inactive, and while it waits for its user: whatever call is made, both stay so.
use Rattle.std.proofs.Common.{◌≡◌, ℕ, ◌≤◌, ◌==◌, ◌||◌, nat_lt, suc, Bool, true, false, if◌then◌else◌, length, Option, Some, None, refl}
use Rattle.chaos_packet.specs.Item.{ItemView}
use Rattle.chaos_packet.specs.Opcode.{kind_of, is_rfc}
use Rattle.chaos_packet.specs.declared.limits.TheConstants.{MAX_DATA}
use Rattle.chaos_conn.specs.declared.state.State.{State}
use Rattle.chaos_conn.specs.declared.state.State.TheVariants as st
use Rattle.chaos_conn.specs.State.{is_inactive, is_requested}
use Rattle.chaos_conn.specs.View.{ConnView, moment}
use Rattle.chaos_conn.specs.Acted.{Acted}
use Rattle.chaos_conn.specs.Opening.{closed_conn}
use Rattle.chaos_conn.specs.Calls.{front_of, read_at_end}
use Rattle.chaos_conn.specs.Act.{Call, act, Request, TakeRequest, Accept, Answer, Reject, Deliver, Write, Unc, Read, FinishRead, Announce, Close, Tick}
use Rattle.chaos_host.specs.Law.{may_end}
use Rattle.chaos_host.specs.Slot.{IsBlank, HoldsRequest, HoldsRequestAlone}
use Rattle.chaos_host.proofs.InUse.{goes_on, stays_in_use}
use Rattle.chaos_host.proofs.Pending.{alone, some_suc, pending_stays}

-- An inactive connection is as a new one, and a pending request is held alone.
pub record IsSettled (v : ConnView) : Type 0 where
  pub blank : IsBlank v
  pub pending : HoldsRequestAlone v

-- a call that does one or the other
either : {A : Type 0} (b : Bool) (x y : Acted A) → IsSettled x.view → IsSettled y.view
    → IsSettled (if b then x else y).view
either true x y hx hy = hx
either false x y hx hy = hy

either_where : {A : Type 0} (b : Bool) (x y : Acted A) → (b ≡ true → IsSettled x.view) → IsSettled y.view
    → IsSettled (if b then x else y).view
either_where true x y hx hy = hx refl
either_where false x y hx hy = hy

-- nothing is to be shown of a connection that is neither inactive nor pending
passes : (v : ConnView) → is_inactive v.state ≡ false → is_requested v.state ≡ false → IsSettled v
passes v used accepted = record { blank = λ h. absurd (cc); pending = λ h. let e = rw h at accepted in absurd (cc) }

-- ---- an inactive connection

closed : (v : ConnView) → IsSettled (closed_conn v)
closed v = record { blank = λ h. refl; pending = λ h. absurd (cc) }

-- it holds nothing, so a read leaves it as it was
holds_nothing : (v : ConnView) (n : ℕ) → v.config.recv_cap ≡ suc n → front_of (closed_conn v) ≡ None
holds_nothing v n cap = rw cap refl

read_nothing : (v : ConnView) (front : Option ItemView) → front ≡ None → IsSettled v
    → IsSettled (read_at_end v front).view
read_nothing v None e h = h
read_nothing v (Some item) e h = absurd (cc)

-- each call on a connection that is new or was closed
from_closed : (v : ConnView) (call : Call) → 1 ≤ v.config.recv_cap → IsSettled (act (closed_conn v) call).view
from_closed v (Request me peer contact start now) some =
    either (nat_lt MAX_DATA (length contact)) _ _ (closed v)
    (either (me.address == 0 || peer == 0) _ _ (closed v) (passes _ refl refl))
from_closed v (TakeRequest p me now) some =
    let cap = some_suc v.config.recv_cap some in
    let taken = λ (asks : is_rfc (kind_of p.op) ≡ true). alone v p me (moment (closed_conn v) now) cap.0 cap.1 asks in
    either (me.address == 0 || p.src == 0) _ _ (closed v)
    (either_where (is_rfc (kind_of p.op)) _ _
    (λ asks. record { blank = λ h. absurd (cc); pending = λ h. (taken asks).0 }) (closed v))
from_closed v (Accept start now) some = closed v
from_closed v (Answer bytes) some = either (nat_lt MAX_DATA (length bytes)) _ _ (closed v) (closed v)
from_closed v (Reject text) some = either (nat_lt MAX_DATA (length text)) _ _ (closed v) (closed v)
from_closed v (Deliver p now) some = closed v
from_closed v (Write op bytes now) some = closed v
from_closed v (Unc bytes) some = closed v
from_closed v Read some =
    let cap = some_suc v.config.recv_cap some in
    read_nothing (closed_conn v) (front_of (closed_conn v)) (holds_nothing v cap.0 cap.1) (closed v)
from_closed v FinishRead some =
    let cap = some_suc v.config.recv_cap some in
    read_nothing (closed_conn v) (front_of (closed_conn v)) (holds_nothing v cap.0 cap.1) (closed v)
from_closed v (Announce window) some = closed v
from_closed v (Close text) some = either (nat_lt MAX_DATA (length text)) _ _ (closed v) (closed v)
from_closed v (Tick now) some = record { blank = λ h. refl; pending = λ h. absurd (cc) }

as_closed : (v w : ConnView) (call : Call) → v ≡ w → IsSettled (act w call).view → IsSettled (act v call).view
as_closed v w call e h = rw e h

-- ---- a connection in use

-- inactive, or pending
abbrev is_waiting : State → Bool
is_waiting s = is_inactive s || is_requested s

-- a pending request is stored alone as long as it is pending
stored_as : (v w : ConnView) → w.send ≡ v.send → w.recv ≡ v.recv → HoldsRequest v → HoldsRequest w
stored_as v w send recv h = record { kept = rw send h.kept; stored = rw (send, recv) h.stored; front = rw recv h.front }

still_pending : (v : ConnView) (call : Call) → v.state ≡ st.RfcReceived → HoldsRequest v
    → HoldsRequestAlone (act v call).view
still_pending v call e h k =
    let same = pending_stays v call e k in
    stored_as v (act v call).view same.0 same.1 h

-- and a connection in another state doesn't come to have one
not_waiting : (v : ConnView) (call : Call) → may_end call ≡ false → is_inactive v.state ≡ false
    → is_requested v.state ≡ false → is_waiting (act v call).view.state ≡ false
not_waiting v call e used accepted =
    goes_on is_waiting
    (record { opened = refl; answered = refl; closed = refl; lost = refl; down = refl; forwarded = refl }) v call e
    used (rw (used, accepted) refl)

never_pending : (w : ConnView) → is_waiting w.state ≡ false → HoldsRequestAlone w
never_pending w e h = let f = rw h at e in absurd (cc)

requested : (s : State) → is_requested s ≡ true → s ≡ st.RfcReceived
requested st.Inactive e = absurd (cc)
requested st.RfcSent e = absurd (cc)
requested st.RfcReceived e = refl
requested st.Open e = absurd (cc)
requested st.Answered e = absurd (cc)
requested st.ClsReceived e = absurd (cc)
requested st.LosReceived e = absurd (cc)
requested st.HostDown e = absurd (cc)
requested st.Forwarded e = absurd (cc)

pending_by : (v : ConnView) (call : Call) (b : Bool) → is_requested v.state ≡ b → may_end call ≡ false
    → is_inactive v.state ≡ false → HoldsRequestAlone v → HoldsRequestAlone (act v call).view
pending_by v call true e ends used h = let here = requested v.state e in still_pending v call here (h here)
pending_by v call false e ends used h = never_pending (act v call).view (not_waiting v call ends used e)

-- each call but those by which a user ends the connection
in_use : (v : ConnView) (call : Call) → may_end call ≡ false → is_inactive v.state ≡ false → IsSettled v
    → IsSettled (act v call).view
in_use v call ends used h =
    let after = stays_in_use v call ends used in
    record { blank = λ k. absurd (cc); pending = pending_by v call (is_requested v.state) refl ends used h.pending }

-- each call
from_use : (v : ConnView) (call : Call) → is_inactive v.state ≡ false → IsSettled v → IsSettled (act v call).view
from_use v (Answer bytes) used h =
    either (nat_lt MAX_DATA (length bytes)) _ _ h (either (is_requested v.state) _ _ (closed v) h)
from_use v (Reject text) used h =
    either (nat_lt MAX_DATA (length text)) _ _ h (either (is_requested v.state) _ _ (closed v) h)
from_use v (Close text) used h = either (nat_lt MAX_DATA (length text)) _ _ h (closed v)
from_use v (Request me peer contact start now) used h = in_use v (Request me peer contact start now) refl used h
from_use v (TakeRequest p me now) used h = in_use v (TakeRequest p me now) refl used h
from_use v (Accept start now) used h = in_use v (Accept start now) refl used h
from_use v (Deliver p now) used h = in_use v (Deliver p now) refl used h
from_use v (Write op bytes now) used h = in_use v (Write op bytes now) refl used h
from_use v (Unc bytes) used h = in_use v (Unc bytes) refl used h
from_use v Read used h = in_use v Read refl used h
from_use v FinishRead used h = in_use v FinishRead refl used h
from_use v (Announce window) used h = in_use v (Announce window) refl used h
from_use v (Tick now) used h = in_use v (Tick now) refl used h

-- ---- any connection

settled_by : (v : ConnView) (call : Call) (b : Bool) → is_inactive v.state ≡ b → 1 ≤ v.config.recv_cap → IsSettled v
    → IsSettled (act v call).view
settled_by v call true e some h = as_closed v (closed_conn v) call (h.blank e) (from_closed v call some)
settled_by v call false e some h = from_use v call e h

-- A settled connection with a receive window is settled after each call.
pub stays_settled : (v : ConnView) (call : Call) → 1 ≤ v.config.recv_cap → IsSettled v → IsSettled (act v call).view
stays_settled v call some h = settled_by v call (is_inactive v.state) refl some h
