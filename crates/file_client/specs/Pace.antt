-- What a client goes by.
use Rattle.std.specs.Prelude.{◌≡◌, ℕ, Bool, true, Option, Some, None, Result, Ok}
use Rattle.chaos_node.specs.Clock.{IsMoment, number_of}
use Rattle.chaos_node.specs.declared.clock.Epoch.{Epoch}
use Rattle.file_client.specs.Patience.{first_wait_of, usual_patience}
use Rattle.file_client.specs.declared.patience.Patience.{Patience}
use Rattle.file_client.specs.declared.timing.Timing.{Timing}

pub record Pace : Type 1 where
  -- the moments that its clock may show
  pub Shows : ℕ → Type 0
  -- the number with which a connection that is asked for at a moment begins
  pub starts : ℕ → ℕ
  -- after so many milliseconds without an OPN it asks for another connection, the first time
  pub wait : ℕ
  -- how long it waits for a reply
  pub patience : Patience
  -- whether a turn may wait for a datagram, where its caller allows that or doesn't
  pub Waits : Bool → Bool → Type 0

-- a run that began then, with the usual patience
abbrev pub usual_timing : Epoch → Timing
usual_timing epoch = record { epoch = epoch; patience = usual_patience }

-- what a client by this clock goes by
abbrev pub clock_pace : (ℕ → Type 0) → Timing → Pace
clock_pace Shows timing = record {
  Shows = IsMoment Shows timing.epoch;
  starts = number_of timing.epoch;
  wait = first_wait_of timing.patience;
  patience = timing.patience;
  Waits = λ allowed waits. waits ≡ true → allowed ≡ true;
}

-- Who counts turns tells the moment that it stands at.
abbrev pub StoodAt : {E : Type 0} → Option ℕ → Result ℕ E → Type 0
StoodAt None told = Unit {0}
StoodAt (Some moment) told = told ≡ Ok moment
