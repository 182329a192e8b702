-- A server's turn.
use Rattle.std.proofs.Common.{◌≡◌, ℕ, List, ◌++◌, length, sym, ap, ◌∙◌, subst, append_assoc}
use Rattle.chaos_packet.specs.Packet.{PacketView}
use Rattle.chaos_file.specs.Store.{StoreChange}
use Rattle.chaos_lab.specs.declared.side.Side.{Side}
use Rattle.chaos_link.specs.Link.{Ask}
use Rattle.chaos_link.specs.Loads.{packets_of}
use Rattle.chaos_net.specs.Net.{Net}
use Rattle.chaos_node.specs.Arrive.{Arrival}
use Rattle.chaos_net.specs.Come.{ComeFrom, ComeFresh}
use Rattle.chaos_net.specs.MadeTurns.{Makes}
use Rattle.chaos_net.proofs.Made.{both_made}
use Rattle.file_server.specs.Arrive.{arrive_at_server}
use Rattle.file_server.specs.Server.{Server, with_host}
use Rattle.file_server.specs.Slots.{Options, end_phases}
use Rattle.file_server.specs.Turn.{IsTurn}
use Rattle.file_server.specs.declared.serve_mode.ServeMode.{ServeMode}
use Rattle.file_end_to_end.specs.Turns.{ServerTurnsAreRuns, ServerRunsAreRuns, accepts_upon}
use Rattle.file_end_to_end.proofs.Serving.{effect, slots_served, told_so}
use Rattle.file_end_to_end.proofs.Phases.{arrived, ended}

module _ {S : Type 0} (changes : S → S → StoreChange) where
  -- from the net where its host is the server's
  turn_made : (mode : ServeMode) (options : Options) (n : Net) (x : Side) (numbers : List ℕ) (came : Arrival) (start now : ℕ) (s t : Server S)
      (lots : List (List PacketView)) → (n x).host ≡ s.host → ComeFrom n x numbers came
      → ComeFresh (accepts_upon start now) n x now numbers came → IsTurn changes mode options came start now s t lots
      → Makes n x (effect t.host lots)
  turn_made mode options n x numbers came start now s t lots is from fresh turn =
      let arrival = arrive_at_server came start now s.host in
      let first : Makes n x arrival =
      subst (λ h. Makes n x (arrive_at_server came start now h)) is
      (arrived n x numbers came start now from fresh) in
      let served = slots_served changes x now mode (length s.host.slots) first.0 (with_host s arrival.host) turn.served
      turn.replies first.1.host turn.serves in
      let end = end_phases options turn.served.sessions now turn.served.host in
      let last : Makes served.0 x end =
      subst (λ h. Makes served.0 x (end_phases options turn.served.sessions now h)) served.1.host
      (ended served.0 x options turn.served.sessions now) in
      let both = both_made n first.0 served.0 x arrival (effect turn.served.host turn.replies) first.1 served.1 in
      let all = both_made n served.0 last.0 x (effect turn.served.host (arrival.lots ++ turn.replies)) end both last.1 in
      told_so n x end.host t.host ((arrival.lots ++ turn.replies) ++ end.lots) lots
      (ap (λ (v : Server S). v.host) turn.ended)
      (ap packets_of (append_assoc arrival.lots turn.replies end.lots ∙ sym turn.out)) (last.0, all)

  pub server_turns_are_runs : ServerTurnsAreRuns changes
  server_turns_are_runs n x numbers came start now s t lots is from fresh turn =
      turn_made turn.0 turn.1 n x numbers came start now s t lots is from fresh turn.2

  pub server_runs_are_runs : (asked : List Ask → Type 0) → ServerRunsAreRuns changes asked
  server_runs_are_runs asked mode options n x numbers waits carriage start now before after result is runs from fresh =
      turn_made mode options n x numbers runs.came start now before.node after.node runs.lots is from fresh runs.turn
