-- How stories last: none is lost, and a peer never changes.
use Rattle.std.specs.Prelude.{◌≡◌, List, Some}
use Rattle.chaos_packet.specs.Begins.{Begins}
use Rattle.chaos_lab.specs.declared.side.Side.{Side}
use Rattle.chaos_net.specs.Net.{Name, Story, Net, NetEvent, after_events}

-- A story goes on to another: both lists grow at their ends, who asked stays so, and a peer that is known stays.
pub record LastsAs (s t : Story) : Type 0 where
  pub written : Begins s.end.written t.end.written
  pub read : Begins s.end.read t.end.read
  pub asked : t.asked ≡ s.asked
  pub peer : (peer : Name) → s.peer ≡ Some peer → t.peer ≡ Some peer

-- Whatever happens in a net, whatever net it is, each connection that there was has its story, which has gone on.
abbrev pub StoriesLast : Type 0
StoriesLast = (n : Net) (events : List NetEvent) (x : Side) (name : Name) (s : Story) → (n x).story name ≡ Some s
    → (t : Story) × ((after_events n events x).story name ≡ Some t) × LastsAs s t
