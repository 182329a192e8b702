-- What a folder of the system answers, as the answers of a store.
use Rattle.std.specs.Prelude.{ℕ, Bool, true, false, Option, Some, None, Result, Ok, Err}
use Rattle.std.specs.Global.{Vec}
use Rattle.std.specs.IoError.{error_kind}
use Rattle.std.specs.declared.io.Error.{Error}
use Rattle.std.specs.declared.io.ErrorKind.{ErrorKind}
use Rattle.std.specs.declared.io.ErrorKind.TheVariants as k
use Rattle.chaos_file.specs.declared.store.Got.{Got}
use Rattle.chaos_file.specs.declared.store.Got.TheVariants as g
use Rattle.chaos_file.specs.declared.store.Placed.{Placed}
use Rattle.chaos_file.specs.declared.store.Stored.{Stored}
use Rattle.chaos_file.specs.declared.store.Stored.TheVariants as p
use Rattle.chaos_file.specs.declared.store.Removed.{Removed}
use Rattle.chaos_file.specs.declared.store.Removed.TheVariants as d
use Rattle.chaos_file.specs.declared.store.Renamed.{Renamed}
use Rattle.chaos_file.specs.declared.store.Renamed.TheVariants as r

-- What the system refused, by the kind of its fault: the file isn't there, there is no memory, or the store failed.
abbrev pub refused_as : {T : Type 0} → T → T → T → ErrorKind → T
refused_as absent no_memory failed k.NotFound = absent
refused_as absent no_memory failed k.OutOfMemory = no_memory
refused_as absent no_memory failed _ = failed

-- a file's bytes, or None where they are more than the limit
abbrev pub got_as : Result (Option (Vec ℕ)) Error → Got
got_as (Ok (Some bytes)) = g.Bytes bytes.items
got_as (Ok None) = g.TooBig
got_as (Err fault) = refused_as g.Absent g.NoMemory g.Failed (error_kind fault)

-- whether a file was replaced; a put asks for no file that is there
abbrev pub stored_as : Result Placed Error → Stored
stored_as (Ok placed) = p.Done placed
stored_as (Err fault) = refused_as p.Failed p.NoMemory p.Failed (error_kind fault)

abbrev pub removed_as : {T : Type 0} → Result T Error → Removed
removed_as (Ok done) = d.Done
removed_as (Err fault) = refused_as d.Absent d.NoMemory d.Failed (error_kind fault)

-- whether the new path was free
abbrev pub renamed_as : Result Bool Error → Renamed
renamed_as (Ok true) = r.Done
renamed_as (Ok false) = r.Exists
renamed_as (Err fault) = refused_as r.Absent r.NoMemory r.Failed (error_kind fault)
