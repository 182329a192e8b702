-- What a server of FILE does at one connection is an event of the file net.
--
--    serve_one:    reads the command in front    changes files and session     writes the reply
--    the event:    Serves id now way             after_one                     and the history has the transaction
use Rattle.std.specs.Prelude.{◌≡◌, ℕ, List, ◌++◌, map, Option, Some}
use Rattle.chaos_packet.specs.Outbox.{OutboxView}
use Rattle.chaos_packet.specs.Packet.{PacketView}
use Rattle.chaos_host.specs.View.{HostView}
use Rattle.chaos_host.specs.Acted.{HostActed, HostDoes}
use Rattle.chaos_file.specs.Session.{SessionView}
use Rattle.chaos_file.specs.Store.{Files, change}
use Rattle.chaos_file.specs.ServeHost.{ServesOne}
use Rattle.chaos_file.specs.declared.served.Served.{Served}
use Rattle.chaos_lab.specs.declared.side.Side.TheVariants.{B}
use Rattle.chaos_net.specs.Net.{Name, Sent, Station}
use Rattle.chaos_net.specs.Present.{named}
use Rattle.file_net.specs.History.{Way}
use Rattle.file_net.specs.FileNet.{FileNet, Serves, CanHappen, file_happens}

-- a station sent these packets in addition
abbrev pub SendsMore : Station → Station → List PacketView → Type 0
SendsMore old new packets = (more : List Sent) × (new.sent ≡ old.sent ++ more) × (map (λ q. q.packet) more ≡ packets)

-- From one file net to another the host at B did this. After that the store has these files, and the connection with this
-- own index has this session. No other session changes.
pub record Leads (f g : FileNet) (id : ℕ) (acted : HostActed Served) (files : Option Files)
    (session : SessionView) : Type 0 where
  pub host : (g.net B).host ≡ acted.view
  pub sent : SendsMore (f.net B) (g.net B) acted.packets
  pub files_are : files ≡ Some g.service.files
  pub own : g.service.session (named (f.net B) id) ≡ session
  pub others : (c : Name) → (named (f.net B) id ≡ c → ⊥) → g.service.session c ≡ f.service.session c

-- Over a store that keeps the files honestly, what `serve_one` does to B's host, to the store and to a connection's session,
-- by its contract, is an event of the file net, in one of the ways.
abbrev pub ServingIsEvent : {S : Type 0} → (S → Option Files) → (S → List ℕ → ℕ → List ℕ → Type 0) → (S → ℕ) → Type 0
ServingIsEvent {S} contents may_give count =
    (f : FileNet) (old new : S) (session : SessionView) (id now : ℕ) (host : HostView) (before after : OutboxView)
    (answer : Served)
    → contents old ≡ Some f.service.files
    → ServesOne (change contents may_give count old new) (f.service.session (named (f.net B) id)) session
    (f.net B).host id now host before after answer
    → (way : Way) × (acted : HostActed Served) × HostDoes (f.net B).host 2 acted host before after answer
    × CanHappen f (Serves id now way)
    × Leads f (file_happens f (Serves id now way)) id acted (contents new) session
