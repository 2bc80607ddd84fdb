-- A picture whose metadata are put into others.
use Rattle.std.specs.Prelude.{◌≡◌, ℕ, Result, Ok, Err, Vec}
use Rattle.std.specs.Global.{Global}
use Rattle.std.specs.declared.io.Error as io
use Rattle.exif_copy.specs.Blocks.{source_checked}
use Rattle.exif_copy.specs.declared.selected.Selection.{Selection}
use Rattle.exif_session.specs.declared.request.Change.{Change}
use Rattle.exif_session.specs.declared.request.Change.TheVariants.{Copy}
use Rattle.exif_types.specs.Failures.{Failure}
use Rattle.exif_types.specs.Refusals.{Fails}
use Rattle.exif_types.specs.declared.error.Error.TheVariants as error

-- A picture that has all that is selected gives it as it is. One that lacks some is refused as
-- `source_checked` says, and one that can't be read with the system's error.
abbrev pub IsSource : Selection → Result (Vec ℕ Global) io.Error → Result Change Failure → Type 0
IsSource selection (Ok from) (Ok change) =
    (change ≡ Copy from selection) × (source_checked selection from.items ≡ Ok tt)
IsSource selection (Ok from) (Err why) = Fails why (source_checked selection from.items)
IsSource selection (Err cause) answer = answer ≡ Err (error.Io cause)
