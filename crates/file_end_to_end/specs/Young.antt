-- Young hosts: each packet that comes between them is fresh.
use Rattle.std.specs.Prelude.{ℕ, ◌≤◌, length}
use Rattle.chaos_lab.specs.declared.side.Side.{Side}
use Rattle.chaos_net.specs.Net.{Net, Reached, CanHappen}
use Rattle.chaos_net.specs.Net.NetEvent.{Arrives}

-- No slot had more than 255 connections before the present connection, and each host sent at most 32,000 packets.
pub record IsYoung (n : Net) : Type 0 where
  pub turns : (x : Side) (place : ℕ) → (n x).turn place ≤ 255
  pub sent : (x : Side) → length (n x).sent ≤ 32000

-- Whatever packet comes to either host, the packet is fresh.
abbrev pub YoungIsFresh : Type 0
YoungIsFresh = (n : Net) (x : Side) (number now : ℕ) → Reached n → IsYoung n → CanHappen n (Arrives x number now)
