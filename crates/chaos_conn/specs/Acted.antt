-- What a call makes of an end.
use Rattle.std.specs.Prelude.{◌≡◌, ◌≤◌, List, [], length}
use Rattle.chaos_packet.specs.Packet.{PacketView}
use Rattle.chaos_packet.specs.Outbox.{OutboxView, with_put}
use Rattle.chaos_conn.specs.View.{ConnView}

-- the view after a call, the packets that it put out, and its answer
pub record Acted (A : Type 0) : Type 0 where
  pub view : ConnView
  pub packets : List PacketView
  pub answer : A

module _ {A B : Type 0} where
  -- the same view and packets, with what comes of the answer
  abbrev pub map_answer : (A → B) → Acted A → Acted B
  map_answer f acted = record { view = acted.view; packets = acted.packets; answer = f acted.answer }

module _ {A : Type 0} where
  -- a call that puts nothing out
  abbrev pub quietly : ConnView → A → Acted A
  quietly v answer = record { view = v; packets = []; answer = answer }

  -- A part of a call did this: at most one packet went out, and the configuration stayed.
  pub record Acts (old : ConnView) (acted : Acted A) (new : ConnView) (before after : OutboxView) (answer : A) : Type 0
    where
      pub view : new ≡ acted.view
      pub packets : after ≡ with_put before acted.packets
      pub answers : answer ≡ acted.answer
      pub few : length acted.packets ≤ 1
      pub config : new.config ≡ old.config

  -- A part of a call did this, and no packet went out.
  pub record ActsQuietly (old : ConnView) (acted : Acted A) (new : ConnView) (answer : A) : Type 0 where
    pub view : new ≡ acted.view
    pub packets : acted.packets ≡ []
    pub answers : answer ≡ acted.answer
    pub config : new.config ≡ old.config
