-- The files of a run of `rename`, and what becomes of those that get no new name.
use Rattle.std.specs.Prelude.{ℕ, Bool, true, false, not, ◌&&◌, ◌||◌, if◌then◌else◌, List, Option, Some, None}
use Rattle.exif_decisions.specs.Endings.{ending_in}
use Rattle.exif_decisions.specs.Paths.{name_of}
use Rattle.exif_decisions.specs.declared.endings.Ending.{Ending}
use Rattle.exif_decisions.specs.declared.found.Found.TheVariants as found
use Rattle.exif_decisions.specs.declared.found.NotRead.TheVariants as why
use Rattle.exif_decisions.specs.declared.outcome.Outcome.{Outcome}
use Rattle.exif_decisions.specs.declared.outcome.Outcome.TheVariants.{Current, Unchanged}
use Rattle.exif_rename_commands.specs.declared.members.Kind.{Kind}
use Rattle.exif_rename_commands.specs.declared.members.Kind.TheVariants.{Picture, Beside, Sidecar}
use Rattle.exif_rename_commands.specs.declared.members.Leaving.{Leaving}
use Rattle.exif_rename_commands.specs.declared.members.Leaving.TheVariants.{Report, Skip, Pass}

-- a sidecar: one that was found as such, or was looked for beside a picture
abbrev pub is_sidecar : Kind → Bool
is_sidecar Picture = false
is_sidecar (Beside (why.Sidecar ending)) = true
is_sidecar (Beside (why.Format format)) = false
is_sidecar (Beside (why.Damaged ending)) = false
is_sidecar (Beside (why.Empty ending)) = false
is_sidecar Sidecar = true

-- a sidecar is skipped by the ending of its name
abbrev pub skipped_by : Option Ending → Leaving
skipped_by None = Pass
skipped_by (Some ending) = Skip (found.NotRead (why.Sidecar ending))

-- what becomes of a file without a new name: a picture is reported, all else is skipped
abbrev pub left_as : Kind → List ℕ → Leaving
left_as Picture path = Report
left_as (Beside reason) path = Skip (found.NotRead reason)
left_as Sidecar path = skipped_by (ending_in (name_of path))

-- files may be there already where all are copied, or go into another folder
abbrev pub looks_there : Bool → Bool → Bool
looks_there copy has_folder = copy || has_folder

-- that they are there is reported, unless they were to be copied and the run is quiet
abbrev pub is_there_said : Bool → Bool → Bool
is_there_said copy quiet = not copy || not quiet

-- a copy that is there is as requested; a file that was to be moved stays
abbrev pub there_outcome : Bool → Bool → Outcome
there_outcome copy differs = if copy && not differs then Current else Unchanged
