-- What a session makes of a command.
use Rattle.std.specs.Prelude.{◌≡◌, List, ℕ, ◌≤◌, length, Option, None}
use Rattle.chaos_packet.specs.declared.limits.TheConstants.{MAX_DATA}
use Rattle.chaos_file.specs.Apply.{IsApplied}
use Rattle.chaos_file.specs.Change.{IsChange}
use Rattle.chaos_file.specs.declared.change.Change.{Change}
use Rattle.chaos_file.specs.Session.{SessionView}
use Rattle.chaos_file.specs.Store.{StoreChange}

-- A session was given a command, and made this reply, which fits into a packet.
pub record IsAnswered (store : StoreChange) (s t : SessionView) (command reply : List ℕ) : Type 0 where
  pub applied : IsApplied store s t command reply
  pub fits : length reply ≤ MAX_DATA

-- No command was given: neither the session nor the store changed.
abbrev pub IsUnused : StoreChange → SessionView → SessionView → Type 0
IsUnused store s t = (t ≡ s) × store.same

-- ---- the same, with what the command is reported to have changed

abbrev pub IsReported : StoreChange → SessionView → SessionView → Option Change → List ℕ → List ℕ → Type 0
IsReported store s t made command reply = IsAnswered store s t command reply × IsChange store s t command reply made

abbrev pub IsUnreported : StoreChange → SessionView → SessionView → Option Change → Type 0
IsUnreported store s t made = IsUnused store s t × (made ≡ None)
