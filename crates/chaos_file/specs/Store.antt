-- What the calls of a store do to its files.
use Rattle.std.specs.Prelude.{◌≡◌, ◌≤◌, ℕ, Bool, true, false, List, [], Option, Some, None, unwrap_or, is_some, length, nat_lt, if◌then◌else◌}
use Rattle.std.specs.Ordering.{nat_cmp}
use Rattle.std.specs.Cmp.Lexicographic.{slice_cmp}
use Rattle.std.specs.FinMap as map
use Rattle.chaos_packet.specs.Count.{Rose, with_failure}
use Rattle.chaos_file.specs.declared.limits.TheConstants.{MAX_FILE}
use Rattle.chaos_file.specs.declared.store.Got.{Got}
use Rattle.chaos_file.specs.declared.store.Got.TheVariants as g
use Rattle.chaos_file.specs.declared.store.Placed.{Placed}
use Rattle.chaos_file.specs.declared.store.Placed.TheVariants.{New, Replaced}
use Rattle.chaos_file.specs.declared.store.Stored.{Stored}
use Rattle.chaos_file.specs.declared.store.Stored.TheVariants as p
use Rattle.chaos_file.specs.declared.store.Removed.{Removed}
use Rattle.chaos_file.specs.declared.store.Removed.TheVariants as d
use Rattle.chaos_file.specs.declared.store.Renamed.{Renamed}
use Rattle.chaos_file.specs.declared.store.Renamed.TheVariants as r

-- a finite map from paths to the bytes of files
abbrev pub Files : Type 0
Files = map.FinMap (slice_cmp nat_cmp) (List ℕ)

abbrev pub is_there : Files → List ℕ → Bool
is_there m path = is_some (map.get m path)

-- whether the bytes that are put at a path replace a file
abbrev pub placed_in : Files → List ℕ → Placed
placed_in m path = if is_there m path then Replaced else New

-- what a look for a file of at most so many bytes finds
pub data Look : Type 0 where
  Missing : Look
  Over : Look
  Found : (bytes : List ℕ) → Look

abbrev pub look_within : ℕ → Option (List ℕ) → Look
look_within limit None = Missing
look_within limit (Some bytes) = if nat_lt limit (length bytes) then Over else Found bytes

abbrev pub look_for : Files → List ℕ → ℕ → Look
look_for m path limit = look_within limit (map.get m path)

-- the files with one of them moved to another path
abbrev pub with_moved : Files → List ℕ → List ℕ → Files
with_moved m old new = map.insert (map.remove m old) new (unwrap_or (map.get m old) [])

-- ---- the calls, over the files `m`; a call that fails or finds no memory leaves them

abbrev pub GotIs : Look → Got → Type 0
GotIs look (g.Bytes bytes) = look ≡ Found bytes
GotIs look g.Absent = look ≡ Missing
GotIs look g.TooBig = look ≡ Over
GotIs look g.Failed = Unit {0}
GotIs look g.NoMemory = Unit {0}

-- bytes that are found are such as may be given
abbrev pub Gives : (List ℕ → Type 0) → Got → Type 0
Gives MayGive (g.Bytes bytes) = MayGive bytes
Gives MayGive _ = Unit {0}

-- the file of a path, as it is now
abbrev pub Gets : List ℕ → ℕ → Got → Option Files → Files → Type 0
Gets path limit answer after m = GotIs (look_for m path limit) answer × (after ≡ Some m)

-- the whole content of a path; it is said whether a file was replaced
abbrev pub Puts : List ℕ → List ℕ → Stored → Option Files → Files → Type 0
Puts path bytes (p.Done placed) after m = (placed ≡ placed_in m path) × (after ≡ Some (map.insert m path bytes))
Puts path bytes p.Failed after m = after ≡ Some m
Puts path bytes p.NoMemory after m = after ≡ Some m

-- a path taken out
abbrev pub Removes : List ℕ → Removed → Option Files → Files → Type 0
Removes path d.Done after m = (is_there m path ≡ true) × (after ≡ Some (map.remove m path))
Removes path d.Absent after m = (is_there m path ≡ false) × (after ≡ Some m)
Removes path d.Failed after m = after ≡ Some m
Removes path d.NoMemory after m = after ≡ Some m

-- a file moved to a path that is free; the old path is looked for first
abbrev pub Renames : List ℕ → List ℕ → Renamed → Option Files → Files → Type 0
Renames old new r.Done after m =
    (is_there m old ≡ true) × (is_there m new ≡ false) × (after ≡ Some (with_moved m old new))
Renames old new r.Absent after m = (is_there m old ≡ false) × (after ≡ Some m)
Renames old new r.Exists after m = (is_there m old ≡ true) × (is_there m new ≡ true) × (after ≡ Some m)
Renames old new r.Failed after m = after ≡ Some m
Renames old new r.NoMemory after m = after ≡ Some m

-- ---- the failures after a call with this answer: one more where it failed

abbrev pub failures_after_get : Got → ℕ → ℕ
failures_after_get g.Failed count = with_failure count
failures_after_get _ count = count

abbrev pub failures_after_put : Stored → ℕ → ℕ
failures_after_put p.Failed count = with_failure count
failures_after_put _ count = count

abbrev pub failures_after_remove : Removed → ℕ → ℕ
failures_after_remove d.Failed count = with_failure count
failures_after_remove _ count = count

abbrev pub failures_after_rename : Renamed → ℕ → ℕ
failures_after_rename r.Failed count = with_failure count
failures_after_rename _ count = count

-- ---- what a command leaves of a store

-- its files before and afterwards, where it is honest; which bytes a `get` of a path may give, never more than the
-- greatest file; that its count of failures rose; and that it is as it was
pub record StoreChange : Type 1 where
  pub before : Option Files
  pub after : Option Files
  pub may_give : List ℕ → List ℕ → Type 0
  pub rose : Type 0
  pub same : Type 0

-- how a store changed, by its files, by what it may give within a limit, and by its count
abbrev pub change : {A : Type 0} → (A → Option Files) → (A → List ℕ → ℕ → List ℕ → Type 0) → (A → ℕ) → A → A
    → StoreChange
change contents may_give count old new = record {
  before = contents old;
  after = contents new;
  may_give = λ path bytes. (length bytes ≤ MAX_FILE) × may_give old path MAX_FILE bytes;
  rose = Rose (count old) (count new);
  same = new ≡ old;
}
