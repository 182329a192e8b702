-- What a call makes of a host.
use Rattle.std.specs.Prelude.{◌≡◌, ℕ, ◌≤◌, List, [], length, slice_set}
use Rattle.chaos_packet.specs.Packet.{PacketView}
use Rattle.chaos_packet.specs.Outbox.{OutboxView, with_put}
use Rattle.chaos_conn.specs.Act.{Call, act}
use Rattle.chaos_host.specs.declared.slot.Slot.{Slot}
use Rattle.chaos_host.specs.Slot.{after_ending}
use Rattle.chaos_host.specs.View.{HostView}

-- the view after a call, the packets that it put out, and its answer
pub record HostActed (A : Type 0) : Type 0 where
  pub view : HostView
  pub packets : List PacketView
  pub answer : A

-- a host with another slot at a place; no other slot changes
abbrev pub with_slot : HostView → ℕ → Slot → HostView
with_slot v place slot = record v { slots = slice_set v.slots place slot }

-- a slot after a call on its connection
abbrev pub slot_after_call : Slot → Call → Slot
slot_after_call slot call = record slot { conn = (act slot.conn call).view }

module _ {A : Type 0} where
  -- a call that changes nothing and puts nothing out
  abbrev pub no_effect : HostView → A → HostActed A
  no_effect v answer = record { view = v; packets = []; answer = answer }

  -- a call on the connection in one slot
  abbrev pub on_slot : HostView → ℕ → Slot → Call → A → HostActed A
  on_slot v place slot call answer = record {
    view = with_slot v place (slot_after_call slot call);
    packets = (act slot.conn call).packets;
    answer = answer;
  }

  -- a call that may end the connection in one slot: the slot is then free, and its generation moves on
  abbrev pub on_slot_then_free : HostView → ℕ → Slot → Call → A → HostActed A
  on_slot_then_free v place slot call answer = record {
    view = with_slot v place (after_ending (slot_after_call slot call));
    packets = (act slot.conn call).packets;
    answer = answer;
  }

  -- A call did what it is to do: the view after it, the packets that it put out, not more than so many, and its answer.
  -- The configuration stays, and the number of slots.
  pub record HostDoes (old : HostView) (most : ℕ) (acted : HostActed A) (new : HostView) (before after : OutboxView)
      (answer : A) : Type 0 where
    pub view : new ≡ acted.view
    pub packets : after ≡ with_put before acted.packets
    pub answers : answer ≡ acted.answer
    pub few : length acted.packets ≤ most
    pub config : new.config ≡ old.config
    pub size : length new.slots ≡ length old.slots
