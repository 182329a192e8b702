-- Whether a handle has a node, by its mark, and what calls leave.
use Rattle.std.specs.Prelude.{◌≡◌, ◌==◌, ℕ, Bool, false, ℤ, negsuc}
use Rattle.chaos_ncp.specs.declared.handle.TheConstants.{MARK}

abbrev pub has_node : ℕ → Bool
has_node mark = mark == MARK

-- A call leaves a node in its handle. Without a node it is refused, by the number of `NoNode`.
pub record Keeps (before after : ℕ) (answer : ℤ) : Type 0 where
  pub node : has_node after ≡ has_node before
  pub refused : has_node before ≡ false → answer ≡ negsuc 0
