-- What a run of `show` has done with an input.
use Rattle.std.specs.Prelude.{◌≡◌, ℕ, List, Option}
use Rattle.std.specs.Io.KnownBytes.{Appends}
use Rattle.chaosd_io.specs.declared.limits.TheConstants.{INPUT_LIMIT}
use Rattle.chaosd_show.specs.declared.format.Format.{Format}
use Rattle.chaosd_show.specs.declared.view.View.{View}
use Rattle.chaosd_show.specs.declared.limits.TheConstants.{SHOW_KEPT_LEN}
use Rattle.chaosd_show.specs.declared.tally.Tally.{Tally}
use Rattle.chaosd_io.specs.Reader.{LinesView, Gives, Done}
use Rattle.chaosd_show.specs.Show.{reports_of, tally_of}

-- The lines that were given were reported and counted.
pub record Shows (format : Format) (view : View) (input rest before written : Option (List ℕ)) (tally : Tally) (lines : LinesView) : Type 0 where
  pub given : List (List ℕ)
  pub gives : Gives SHOW_KEPT_LEN INPUT_LIMIT input rest given lines
  pub text : Appends before written (reports_of format view given)
  pub count : tally ≡ tally_of format given

-- All lines of the input were reported and counted.
pub record ShowsAll (format : Format) (view : View) (input rest before written : Option (List ℕ)) (tally : Tally) : Type 0 where
  pub given : List (List ℕ)
  pub done : Done INPUT_LIMIT input rest given
  pub text : Appends before written (reports_of format view given)
  pub count : tally ≡ tally_of format given
