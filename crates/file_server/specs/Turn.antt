-- One turn of a server: what came is taken, then each slot is served, closed and released. Each slot is ticked whose timer
-- doesn't hold the tick back. At last the files of sessions whose connection has ended are given back.
use Rattle.std.specs.Prelude.{◌≡◌, ℕ, Bool, List, ◌++◌, length}
use Rattle.chaos_packet.specs.Packet.{PacketView}
use Rattle.chaos_file.specs.Store.{StoreChange}
use Rattle.chaos_link.specs.Link.{Ask}
use Rattle.chaos_link.specs.declared.carriage.Carriage.{Carriage}
use Rattle.chaos_node.specs.Arrive.{Arrival}
use Rattle.chaos_node.specs.Station.{Station}
use Rattle.chaos_node.specs.Turn.{GoesOver}
use Rattle.chaos_node.specs.declared.end.TurnEnd.{TurnEnd}
use Rattle.file_server.specs.Arrive.{arrive_at_server}
use Rattle.file_server.specs.Serve.{ServesSlotsBy, Uses, plain_uses}
use Rattle.file_server.specs.Server.{Server, after_giving_back, with_host}
use Rattle.file_server.specs.Slots.{Options, end_phases}
use Rattle.file_server.specs.declared.serve_mode.ServeMode.{ServeMode}

module _ {S : Type 0} (uses : Uses S) where
  -- A turn of a server to which this came: what it became, and the packets that went out, lot by lot. Each slot is served
  -- once, or in a burst. By the options connections are closed whose peer acknowledges nothing, and ticks are held back.
  pub record IsTurnBy (mode : ServeMode) (options : Options) (came : Arrival) (start now : ℕ) (s t : Server S) (lots : List (List PacketView)) : Type 0 where
    -- the server after each slot was served, and the replies
    pub served : Server S
    pub replies : List (List PacketView)
    pub serves : ServesSlotsBy uses mode now (length s.host.slots)
        (with_host s (arrive_at_server came start now s.host).host) served replies
    pub ended : t ≡ after_giving_back (with_host served (end_phases options served.sessions now served.host).host)
    pub out : lots
        ≡ (arrive_at_server came start now s.host).lots
        ++ (replies ++ (end_phases options served.sessions now served.host).lots)

  -- A whole turn of a server at its link, by this carriage; its one receive waits for a datagram or doesn't.
  pub record RunsTurnBy (mode : ServeMode) (options : Options) (asked : List Ask → Type 0) (waits : Bool) (carriage : Carriage) (start now : ℕ)
      (before after : Station (Server S)) (result : TurnEnd) : Type 0 where
    pub came : Arrival
    pub lots : List (List PacketView)
    pub turn : IsTurnBy mode options came start now before.node after.node lots
    pub link : GoesOver asked waits carriage came lots before after result

-- the same by a store alone
module _ {S : Type 0} (changes : S → S → StoreChange) where
  abbrev pub IsTurn : ServeMode → Options → Arrival → ℕ → ℕ → Server S → Server S → List (List PacketView) → Type 0
  IsTurn = IsTurnBy (plain_uses changes)

  abbrev pub RunsTurn : ServeMode → Options → (List Ask → Type 0) → Bool → Carriage → ℕ → ℕ → Station (Server S)
      → Station (Server S) → TurnEnd → Type 0
  RunsTurn = RunsTurnBy (plain_uses changes)
