-- Walks over the slots in use alone: a free slot is not served, has nothing to serve, and ends nothing.
use Rattle.std.proofs.Common.{◌≡◌, zero, suc, ℕ, ◌<◌, ◌≤◌, Bool, true, false, if◌then◌else◌, List, [], Option, None, arith, inl, inr, refl, ap, sym, ◌∙◌, append-nil, subst}
use Rattle.std.proofs.lemmas.Bool.{cases_lt}
use Rattle.chaos_packet.specs.Packet.{PacketView}
use Rattle.chaos_host.specs.Slot.{is_used_at}
use Rattle.chaos_host.specs.View.{HostView, id_at}
use Rattle.chaos_link.specs.Link.{Ask}
use Rattle.chaos_link.specs.declared.carriage.Carriage.{Carriage}
use Rattle.chaos_link.specs.declared.link.Link.{Ghosts}
use Rattle.chaos_node.specs.Station.{Station}
use Rattle.chaos_node.specs.declared.turn.Turn.{Turn}
use Rattle.chaos_node.proofs.Free.{PassesFree, by_index, id_of_free}
use Rattle.file_server.specs.InTurn.{ServerTurnDoes}
use Rattle.file_server.specs.Serve.{ServerDoes, ServesModeBy, ServesSlotBy, ServesSlotsBy, Uses}
use Rattle.file_server.specs.Server.{Server}
use Rattle.file_server.specs.Sessions.{Serving, serving_at}
use Rattle.file_server.specs.Slots.{EndsNothing, EndsNothingAt, IsIdle, close_at, close_for, release_at, release_by}
use Rattle.file_server.specs.declared.serve_mode.ServeMode.{ServeMode}
use Rattle.file_server.specs.declared.serve_mode.ServeMode.TheVariants.{Burst, Once}
use Rattle.file_server.specs.Waiting.{serves_by}

-- The slots from one place to another are free.
abbrev pub AreFree : HostView → ℕ → ℕ → Type 0
AreFree h m n = (k : ℕ) → m ≤ k → k < n → is_used_at h.slots k ≡ false

less_free : (h : HostView) (m n : ℕ) → AreFree h m (suc n) → AreFree h m n
less_free h m n free k from under = free k from (omega arith)

-- ---- phases

pub closes_pass : (silence : Option ℕ) (now : ℕ) (sessions : List Serving) → PassesFree (close_at silence now sessions)
closes_pass silence now sessions =
    by_index (λ place h there. close_for silence now (serving_at sessions place) h there) (λ place h. refl)

pub releases_pass : PassesFree release_at
releases_pass = by_index (λ place h there. release_by h there) (λ place h. refl)

-- ---- slots that end nothing

free_ends_nothing : (silence : Option ℕ) (now : ℕ) (sessions : List Serving) (h : HostView) (place : ℕ)
    → is_used_at h.slots place ≡ false → EndsNothingAt silence now sessions h place
free_ends_nothing silence now sessions h place free =
    let none = sym (id_of_free h place free) in (
      subst (λ (o : Option ℕ). IsIdle (close_for silence now (serving_at sessions place) h o) h) none (refl, refl),
      subst (λ (o : Option ℕ). IsIdle (release_by h o) h) none (refl, refl),
    )

pub ends_to : (silence : Option ℕ) (now : ℕ) (sessions : List Serving) (h : HostView) (m n : ℕ) → m ≤ n
    → AreFree h m n → EndsNothing silence now sessions h m → EndsNothing silence now sessions h n
ends_to silence now sessions h m zero within free none =
    let same : m ≡ 0 = omega arith in subst (λ (k : ℕ). EndsNothing silence now sessions h k) same none
ends_to silence now sessions h m (suc n) within free none =
    elim (cases_lt n m) as (λ _. EndsNothing silence now sessions h (suc n)) [
      | inl all ↦
          let same : m ≡ suc n = omega arith in subst (λ (k : ℕ). EndsNothing silence now sessions h k) same none
      | inr less ↦
          let below : n < suc n = omega arith in (
            ends_to silence now sessions h m n less (less_free h m n free) none,
            free_ends_nothing silence now sessions h n (free n less below),
          )
    ]

-- ---- what can be served

serves_none : (h : HostView) (o : Option ℕ) → o ≡ None → serves_by h o ≡ false
serves_none h o none = rw none refl

-- a free slot has nothing to serve
pub serves_free : (h : HostView) (place : ℕ) → is_used_at h.slots place ≡ false → serves_by h (id_at h place) ≡ false
serves_free h place free = serves_none h (id_at h place) (id_of_free h place free)

-- ---- serving

module _ {S : Type 0} (uses : Uses S) where
  none_served : (mode : ServeMode) (now place : ℕ) (s : Server S) → ServesModeBy uses mode now place None s s []
  none_served Once now place s = (refl, refl)
  none_served Burst now place s = (refl, refl)

  serves_passed : (mode : ServeMode) (now m n : ℕ) (s t : Server S) (lots : List (List PacketView)) → m ≤ n → AreFree t.host m n
      → ServesSlotsBy uses mode now m s t lots → ServesSlotsBy uses mode now n s t lots
  serves_passed mode now m zero s t lots within free served =
      let same : m ≡ 0 = omega arith in subst (λ (k : ℕ). ServesSlotsBy uses mode now k s t lots) same served
  serves_passed mode now m (suc n) s t lots within free served =
      elim (cases_lt n m) as (λ _. ServesSlotsBy uses mode now (suc n) s t lots) [
        | inl all ↦
            let same : m ≡ suc n = omega arith in subst (λ (k : ℕ). ServesSlotsBy uses mode now k s t lots) same served
        | inr less ↦
            let below : n < suc n = omega arith in
            let none = sym (id_of_free t.host n (free n less below)) in
            let passed : ServesSlotBy uses mode now n t t [] =
            subst (λ (o : Option ℕ). ServesModeBy uses mode now n o t t []) none (none_served mode now n t) in
            (t, lots, [], serves_passed mode now m n s t lots less (less_free t.host m n free) served, passed, sym (append-nil lots))
      ]

  slots_passed : (asked : List Ask → Type 0) (carriage : Carriage) (mode : ServeMode) (now m n : ℕ) (a b : Station (Server S)) (sent : Bool)
      → m ≤ n → AreFree b.node.host m n → ServerDoes asked carriage (ServesSlotsBy uses mode now m) a b sent
      → ServerDoes asked carriage (ServesSlotsBy uses mode now n) a b sent
  slots_passed asked carriage mode now m n a b sent within free done = record {
    lots = done.lots;
    done = serves_passed mode now m n a.node b.node done.lots within free done.done;
    sends = done.sends;
    outbox = done.outbox;
    told = done.told;
    config = done.config;
    size = done.size;
    count = done.count;
  }

  -- the first slots were served, and those behind them are free
  pub served_to : {L : Type 0} {G : Ghosts L} (mode : ServeMode) (a b : Turn L G) (m n : ℕ) (xs ys : List Serving) (s t : S) (sent : Bool)
      → m ≤ n → AreFree b.host.now m n
      → ServerTurnDoes a b (ServesSlotsBy uses mode a.now m) xs ys s t sent
      → ServerTurnDoes a b (ServesSlotsBy uses mode a.now n) xs ys s t sent
  served_to mode a b m n xs ys s t sent within free done =
      (slots_passed _ a.carriage mode a.now m n _ _ sent within free done.0, done.1)
