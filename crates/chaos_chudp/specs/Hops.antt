-- The next hop of a packet.
use Rattle.std.specs.Prelude.{ℕ, ◌==◌, List, Option, unwrap_or, if◌then◌else◌}
use Rattle.std.specs.List.{list_any}

-- the addresses that are reached directly, and the address of the bridge to all others, where it is known
pub record HopsView : Type 0 where
  pub near : List ℕ
  pub bridge : Option ℕ

-- the next hop on the way to an address: an address that is reached directly is its own hop, and any other address is reached
-- through the bridge; where no bridge is known, each address is its own hop
abbrev pub hop_of : ℕ → HopsView → ℕ
hop_of to hops = if list_any (λ address. address == to) hops.near then to else unwrap_or hops.bridge to
