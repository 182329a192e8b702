-- Short runs, in which every packet is fresh: an event of the file net is two events of the network at most.
use Rattle.std.proofs.Common.{ℕ, ◌+◌, ◌*◌, ◌<◌, ◌≤◌, List, [], ◌∷◌, length, Option, Some, None, refl, sym, subst, arith}
use Rattle.std.specs.List.{AllByRecursion}
use Rattle.chaos_conn.specs.Act.Call.{Write, FinishRead}
use Rattle.chaos_file.specs.Store.{Files}
use Rattle.chaos_packet.specs.Opcode.{op_data}
use Rattle.chaos_host.specs.Deeds.HostEvent.{Calls}
use Rattle.chaos_lab.specs.declared.side.Side.TheVariants.{A, B}
use Rattle.chaos_net.specs.Net.{Net, IsNew, happens}
use Rattle.chaos_net.specs.Net.NetEvent.{At}
use Rattle.chaos_net.specs.Played.{ArePlayed}
use Rattle.chaos_net.proofs.Network.{reached_is_played}
use Rattle.chaos_net.proofs.Short.{AreWithin, can_happen, more_within, new_within, step_within}
use Rattle.chaos_net.specs.Present.{named}
use Rattle.chaos_file.specs.ServeWork.{Work, NotOpen, Nothing as Idle, Full, LastItem, Command}
use Rattle.chaos_file.specs.ServeCalls.{work_at}
use Rattle.file_net.specs.History.{Way, AsDefined}
use Rattle.file_net.specs.FileNet.{FileNet, FileEvent, Nets, Serves, FileRun, CanServe, CanHappen, after_reading, served_by, transaction_of, file_happens, new_file_net}
use Rattle.file_net.specs.Short.{after_file_events, IsPlain, ShortFileLaw}
use Rattle.file_net.proofs.Kept.{IsSound, event_keeps, start_is_sound}

-- ---- events of the file net, each of which is two of the net at most

all_within : (k : ℕ) (n : Net) → AreWithin k n → AreWithin (k + 1) n
all_within k n h = λ x. more_within k (n x) (h x)

work_within : (k : ℕ) (f : FileNet) (id now : ℕ) (way : Way) → AreWithin k f.net → (o : Option Work)
    → AreWithin (k + 1 + 1) (served_by f id now way o).net
work_within k f id now way h None = all_within (k + 1) f.net (all_within k f.net h)
work_within k f id now way h (Some (NotOpen state)) = all_within (k + 1) f.net (all_within k f.net h)
work_within k f id now way h (Some Idle) = all_within (k + 1) f.net (all_within k f.net h)
work_within k f id now way h (Some Full) = all_within (k + 1) f.net (all_within k f.net h)
work_within k f id now way h (Some LastItem) =
    all_within (k + 1) (after_reading f.net id) (step_within k f.net (At B (Calls id FinishRead)) h)
work_within k f id now way h (Some (Command body)) =
    step_within (k + 1) (after_reading f.net id)
    (At B (Calls id (Write op_data (transaction_of f.service (named (f.net B) id) body way).reply now)))
    (step_within k f.net (At B (Calls id FinishRead)) h)

file_within : (k : ℕ) (f : FileNet) (event : FileEvent) → AreWithin k f.net
    → AreWithin (k + 1 + 1) (file_happens f event).net
file_within k f (Nets event) h = all_within (k + 1) (happens f.net event) (step_within k f.net event h)
file_within k f (Serves id now way) h = work_within k f id now way h (work_at (f.net B).host id)

-- each of them can happen
work_can : (f : FileNet) (id : ℕ) (o : Option Work) → CanServe f id AsDefined o
work_can f id None = tt
work_can f id (Some (NotOpen state)) = tt
work_can f id (Some Idle) = tt
work_can f id (Some Full) = tt
work_can f id (Some LastItem) = tt
work_can f id (Some (Command body)) = tt

file_can : (f : FileNet) (k : ℕ) (event : FileEvent) → ArePlayed f.net → AreWithin k f.net → k < 256 → IsPlain event
    → CanHappen f event
file_can f k (Nets event) h w few plain = (can_happen f.net k event h w few plain.0, plain.1)
file_can f k (Serves id now way) h w few plain =
    subst (λ z. CanServe f id z (work_at (f.net B).host id)) (sym plain) (work_can f id (work_at (f.net B).host id))

-- ---- runs

runs_short : (m : Files) (events : List FileEvent) (k : ℕ) (f : FileNet) → IsSound m f → AreWithin (2 * k) f.net
    → k + length events ≤ 128 → AllByRecursion IsPlain events → FileRun f events (after_file_events f events)
runs_short m [] k f h w few all = refl
runs_short m (event ∷ events) k f h w few all =
    let can = file_can f (2 * k) event (reached_is_played f.net h.reached) w (omega (arith, few)) all.0 in
    let more : AreWithin (2 * (k + 1)) (file_happens f event).net =
    subst (λ i. AreWithin i (file_happens f event).net) (omega arith) (file_within (2 * k) f event w) in
    (can, runs_short m events (k + 1) (file_happens f event) (event_keeps m f event can h) more (omega (arith, few)) all.1)

pub short_file_run : (m : Files) (start : Net) (events : List FileEvent) → IsNew (start A) → IsNew (start B)
    → length events ≤ 128 → AllByRecursion IsPlain events
    → FileRun (new_file_net start m) events (after_file_events (new_file_net start m) events)
short_file_run m start events a b few all =
    runs_short m events 0 (new_file_net start m) (start_is_sound m start a b) within (omega (arith, few)) all
  where
    within : AreWithin 0 start
    within A = new_within (start A) a
    within B = new_within (start B) b

pub short_file_runs : ShortFileLaw
short_file_runs m start events a b few all =
    record { start = start; a = a; b = b; events = events; run = short_file_run m start events a b few all }
