-- A service by a clock.
use Rattle.std.proofs.Common.{◌≡◌, ℕ, List, subst}
use Rattle.std.specs.Prelude.{All, Option, Result, Ok, Err, OnOk}
use Rattle.chaos_conn.specs.Config.{ConfigView, usual_config}
use Rattle.chaos_file.specs.Store.{StoreChange}
use Rattle.chaos_link.specs.Link.{Ask, QueueView}
use Rattle.chaos_link.specs.declared.carriage.Carriage.{Carriage}
use Rattle.chaos_node.specs.Clock.{BeginsBy, IsMoment, number_of}
use Rattle.chaos_node.specs.declared.clock.Epoch.{Epoch}
use Rattle.chaos_node.specs.declared.fault.NodeFault.{NodeFault}
use Rattle.chaos_node.specs.declared.timer.Interval.{Interval}
use Rattle.file_server.specs.Service.{Serves, ServesAt, ServesBy}

-- A service that made all its turns by a source of moments made them by a clock, where each moment that may have been read
-- is one that the clock shows.
pub served_by_clock : {S A : Type 0} (changes : S → S → StoreChange) (carriage : Carriage) (starts : ℕ → ℕ)
    (Shows Dates : ℕ → Type 0) (epoch : Epoch) (read : List ℕ → Type 0) (asked : List Ask → Type 0) (config : ConfigView)
    (interval : Interval) (turns address : ℕ) (store store' : S) (queue queue' : Option QueueView) (end : Result A NodeFault)
    → BeginsBy Shows Dates epoch → config ≡ usual_config → starts ≡ number_of epoch
    → ((moments : List ℕ) → read moments → All (IsMoment Shows epoch) moments)
    → ServesBy changes carriage read asked starts config interval turns address 0 store store' queue queue' end
    → OnOk end (Serves changes carriage asked Shows Dates interval turns address store store' queue queue')
served_by_clock changes carriage starts Shows Dates epoch read asked config interval turns address store store' queue queue'
    (Err fault) begins usual by shown served = tt
served_by_clock changes carriage starts Shows Dates epoch read asked config interval turns address store store' queue queue'
    (Ok end) begins usual by shown (moments, asks, was, were, count, made) = (
      epoch,
      moments,
      asks,
      begins,
      shown moments was,
      were,
      count,
      subst (λ (v : ConfigView). ServesAt changes carriage (number_of epoch) moments asks v interval address 0 store store' queue queue')
          usual
          (subst (λ (f : ℕ → ℕ). ServesAt changes carriage f moments asks config interval address 0 store store' queue queue') by made),
    )
