-- Timers look at the connections in the slots in use alone: the timer of a free slot stays as it is.
use Rattle.std.proofs.Common.{◌≡◌, zero, suc, ℕ, ◌<◌, ◌≤◌, Bool, false, List, length, slice_get, slice_set, Option, Some, None, arith, inl, inr, refl, ap, sym, ◌∙◌}
use Rattle.std.proofs.lemmas.Bool.{cases_lt}
use Rattle.chaos_conn.specs.View.{ConnView}
use Rattle.chaos_host.specs.Slot.{is_used_at}
use Rattle.chaos_host.specs.View.{HostView, conn_at}
use Rattle.chaos_node.specs.Timer.{looked, looked_at, looked_in, looked_slots}
use Rattle.chaos_node.specs.declared.timer.RetransmitTimer.{RetransmitTimer}
use Rattle.chaos_node.proofs.Free.{conn_free}

none_seen : (now place : ℕ) (h : HostView) (ts : List RetransmitTimer) → conn_at h place ≡ None → looked_at now h place ts ≡ ts
none_seen now place h ts none = ap (λ (c : Option (ℕ × ConnView)). looked_in now place c (slice_get ts place) ts) none

-- slots were passed over, all of which are free
pub timers_pass : (now m n : ℕ) (h : HostView) (ts : List RetransmitTimer) → m ≤ n
    → ((k : ℕ) → m ≤ k → k < n → is_used_at h.slots k ≡ false) → looked_slots now h n ts ≡ looked_slots now h m ts
timers_pass now m zero h ts within free =
    let none : 0 ≡ m = omega arith in ap (λ (k : ℕ). looked_slots now h k ts) none
timers_pass now m (suc n) h ts within free =
    elim (cases_lt n m) as (λ _. looked_slots now h (suc n) ts ≡ looked_slots now h m ts) [
      | inl all ↦ let same : suc n ≡ m = omega arith in ap (λ (k : ℕ). looked_slots now h k ts) same
      | inr less ↦
          let below : n < suc n = omega arith in
          none_seen now n h (looked_slots now h n ts) (conn_free n (slice_get h.slots n) (free n less below))
          ∙ timers_pass now m n h ts less (λ k from under. free k from (omega arith))
    ]

-- the connection in this slot was seen by the slot's timer
pub seen_in : (now place id : ℕ) (v : ConnView) (t : RetransmitTimer) (h : HostView) (ts : List RetransmitTimer)
    → conn_at h place ≡ Some (id, v) → slice_get ts place ≡ Some t
    → looked_at now h place ts ≡ slice_set ts place (looked id v now t)
seen_in now place id v t h ts conn timer =
    ap (λ (c : Option (ℕ × ConnView)). looked_in now place c (slice_get ts place) ts) conn
    ∙ ap (λ (o : Option RetransmitTimer). looked_in now place (Some (id, v)) o ts) timer

nothing_in : (now place : ℕ) (c : Option (ℕ × ConnView)) (ts : List RetransmitTimer) → looked_in now place c None ts ≡ ts
nothing_in now place None ts = refl
nothing_in now place (Some (id, v)) ts = refl

-- a slot has no timer
pub no_timer : (now place : ℕ) (h : HostView) (ts : List RetransmitTimer) → slice_get ts place ≡ None
    → looked_at now h place ts ≡ ts
no_timer now place h ts none =
    ap (λ (o : Option RetransmitTimer). looked_in now place (conn_at h place) o ts) none
    ∙ nothing_in now place (conn_at h place) ts
