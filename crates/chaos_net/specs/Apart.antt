-- Packets of one connection change no other.
use Rattle.std.specs.Prelude.{◌≡◌, ℕ, true, false, Some, slice_get}
use Rattle.chaos_packet.specs.Opcode.{kind_of}
use Rattle.chaos_conn.specs.Sending.{carries_ack}
use Rattle.chaos_lab.specs.declared.side.Side.{Side}
use Rattle.chaos_lab.specs.Machine.{other}
use Rattle.chaos_net.specs.Net.{Name, Story, Sent, Net, IsFresh, Reached, happens}
use Rattle.chaos_net.specs.Net.NetEvent.{Arrives}

-- A packet of a connection that carries an acknowledgement comes while it is fresh. It changes the story of that
-- connection's peer alone.
abbrev pub ChangesPeerAlone : Type 0
ChangesPeerAlone = (n : Net) (x : Side) (number now : ℕ) (q : Sent) (c d : Name) (s : Story) → Reached n
    → slice_get (n (other x)).sent number ≡ Some q → q.by ≡ Some c → (n (other x)).story c ≡ Some s
    → carries_ack (kind_of q.packet.op) ≡ true → IsFresh n x q
    → (s.peer ≡ Some d → ⊥) → (happens n (Arrives x number now) x).story d ≡ (n x).story d

-- the same lists and the same peer
pub record IsAsBefore (s t : Story) : Type 0 where
  pub written : t.end.written ≡ s.end.written
  pub read : t.end.read ≡ s.end.read
  pub peer : t.peer ≡ s.peer

-- A packet that carries no acknowledgement, of whatever sender and age, adds nothing to any connection that there is:
-- it may end one, or begin another.
abbrev pub BareAddsNothing : Type 0
BareAddsNothing = (n : Net) (x : Side) (number now : ℕ) (q : Sent) (d : Name) (s : Story) → Reached n
    → slice_get (n (other x)).sent number ≡ Some q → carries_ack (kind_of q.packet.op) ≡ false
    → (n x).story d ≡ Some s → (t : Story) × ((happens n (Arrives x number now) x).story d ≡ Some t) × IsAsBefore s t
