-- The steps of two nodes without seals are steps over sealed links: what comes is fresh, and so near.
use Rattle.std.proofs.Common.{◌≡◌, ℕ, zero, suc, ◌<◌, ◌≤◌, List, [], ◌∷◌, Some, None, Ok, Err, refl, inl, arith, lit<}
use Rattle.std.specs.Prelude.{slice_get}
use Rattle.chaos_packet.specs.Packet.{PacketView}
use Rattle.chaos_conn.specs.Config.{usual_config}
use Rattle.chaos_host.specs.View.{HostView}
use Rattle.chaos_lab.specs.declared.side.Side.{Side}
use Rattle.chaos_lab.specs.declared.side.Side.TheVariants.{A, B}
use Rattle.chaos_lab.specs.Machine.{other}
use Rattle.chaos_net.specs.Come.{AreFresh, ComeFresh, nothing_upon}
use Rattle.chaos_net.specs.Hello.{two_hosts}
use Rattle.chaos_net.specs.Net.{Net, after_events, happens}
use Rattle.chaos_net.specs.Net.NetEvent.{Arrives}
use Rattle.chaos_net.specs.System.{IsFreshStep, IsNewSeat, Step, Steps, System, Turn, Calls, handed, numbers_of}
use Rattle.chaos_net.specs.SystemHello.{AreSteps, Stride, after_step, hello_steps, two_nodes}
use Rattle.chaos_net.specs.TurnHalves.{node_turns}
use Rattle.chaos_net.specs.Turns.{client_host, client_turns, client_upon}
use Rattle.chaos_net.proofs.Hello.{usual}
use Rattle.chaos_net.proofs.Short.{short_runs}
use Rattle.chaos_net.proofs.SystemHello.{something_is_read}
use Rattle.chaos_node.specs.Arrive.{Arrival}
use Rattle.chaos_sealed_net.specs.SealedNodes.{AreNear, AreRising, ComeNear, IsInTime, IsNearStep, newest_by}
use Rattle.chaos_sealed_net.specs.SealedNodesHello.{AreSealedSteps, SomethingIsReadBySealedNodes, counter_in, once_each}
use Rattle.chaos_sealed_net.proofs.Example.{fresh_near}

-- ---- the counters rise

rising : AreRising once_each
rising = record { some = some; again = again; later = later }
  where
    some : (x : Side) (m i c : ℕ) → slice_get (once_each x m) i ≡ Some c → 1 ≤ c
    some x m zero c at = let is : Some (suc m) ≡ Some c = at in let same : suc m ≡ c = cc in omega (arith, same)
    some x m (suc i) c at = let none : None ≡ Some c = at in absurd (cc)

    again : (x : Side) (m i j c d : ℕ) → i < j → slice_get (once_each x m) i ≡ Some c
        → slice_get (once_each x m) j ≡ Some d → c < d
    again x m i zero c d before first second = absurd (omega (arith, before))
    again x m i (suc j) c d before first second = let none : None ≡ Some d = second in absurd (cc)

    later : (x : Side) (m n i j c d : ℕ) → m < n → slice_get (once_each x m) i ≡ Some c
        → slice_get (once_each x n) j ≡ Some d → c < d
    later x m n zero zero c d before first second =
        let e : Some (suc m) ≡ Some c = first in
        let f : Some (suc n) ≡ Some d = second in
        let is_c : suc m ≡ c = cc in
        let is_d : suc n ≡ d = cc in
        omega (arith, before, is_c, is_d)
    later x m n (suc i) j c d before first second = let none : None ≡ Some c = first in absurd (cc)
    later x m n zero (suc j) c d before first second = let none : None ≡ Some d = second in absurd (cc)

-- ---- what is fresh is near

all_near : (n : Net) (x : Side) (now : ℕ) (ks : List ℕ) (ps : List PacketView) → AreFresh nothing_upon n x now ks ps
    → AreNear n x now ks ps
all_near n x now [] ps fresh = tt
all_near n x now (k ∷ ks) [] fresh = tt
all_near n x now (k ∷ ks) (p ∷ ps) fresh =
    (λ q at. fresh_near n x q (fresh.0 q at), all_near (happens n (Arrives x k now)) x now ks ps fresh.1)

come_near : (n : Net) (x : Side) (now : ℕ) (numbers : List ℕ) (came : Arrival) → ComeFresh nothing_upon n x now numbers came
    → ComeNear n x now numbers came
come_near n x now numbers None fresh = tt
come_near n x now numbers (Some (Err fault)) fresh = tt
come_near n x now numbers (Some (Ok packets)) fresh = all_near n x now numbers packets fresh

step_near : (n : Net) (s : System HostView) (step : Step) → IsFreshStep client_upon n s step → IsNearStep n s step
step_near n s (Turn x number start now) fresh =
    come_near n x now (numbers_of (s (other x)).posts number) (handed (s (other x)).posts number) fresh
step_near n s (Calls x event) fresh = tt

-- ---- so they are steps over sealed links

as_node : (s t : System HostView) (step : Step) → Steps client_host client_turns s step t
    → Steps client_host node_turns s step t
as_node s t (Turn x number start now) steps = (
  record {
    carriage = steps.0.carriage;
    lots = steps.0.lots;
    turn = inl steps.0.turn;
    read = steps.0.read;
    waiting = steps.0.waiting;
    posts = steps.0.posts;
  },
  steps.1,
)
as_node s t (Calls x event) steps =
    (record { own = steps.0.own; host = steps.0.host; waiting = steps.0.waiting; posts = steps.0.posts }, steps.1)

abbrev AreInTime : (Side → ℕ) → List Stride → Type 0
AreInTime newest [] = Unit {0}
AreInTime newest (one ∷ steps) =
    IsInTime once_each newest one.step (counter_in one.step) × AreInTime (newest_by newest one.step (counter_in one.step)) steps

as_sealed : (steps : List Stride) (s t : System HostView) (newest : Side → ℕ) (n m : Net) → AreSteps s n steps t m
    → AreInTime newest steps → AreSealedSteps s newest n steps t m
as_sealed [] s t newest n m are in_time = are
as_sealed (one ∷ steps) s t newest n m are in_time = (
  as_node s (after_step s one.step) one.step are.0,
  in_time.0,
  step_near n s one.step are.1,
  are.2,
  as_sealed steps (after_step s one.step) t (newest_by newest one.step (counter_in one.step)) (after_events n one.run) m are.3
      in_time.1,
)

in_time : AreInTime (λ x. 0) hello_steps
in_time =
    (tt, (tt, (tt, ((0, refl, lit< tt), (tt, (tt, ((0, refl, lit< tt), (tt, (tt, ((0, refl, lit< tt), (tt, tt)))))))))))

new_nodes : (x : Side) → IsNewSeat client_host (two_nodes x)
new_nodes A =
    record { address = 257; conns = 1; config = usual_config; right = refl; sound = usual; host = refl; waiting = refl; posts = refl }
new_nodes B =
    record { address = 258; conns = 1; config = usual_config; right = refl; sound = usual; host = refl; waiting = refl; posts = refl }

pub something_is_read_by_sealed_nodes : SomethingIsReadBySealedNodes
something_is_read_by_sealed_nodes =
    let hello = something_is_read short_runs in
    record {
      rising = rising;
      new = new_nodes;
      system = hello.system;
      net = hello.net;
      steps = as_sealed hello_steps two_nodes hello.system (λ x. 0) two_hosts hello.net hello.steps in_time;
      stands = hello.stands;
      read = hello.read;
    }
