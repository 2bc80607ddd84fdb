-- Pictures that get their location from a track.
use Rattle.std.specs.Prelude.{◌≡◌, ℕ, ◌==◌, List, length, is_some, Option, Some, None, Result, Ok, Err}
use Rattle.exif_change.specs.declared.notes.Note.{Note}
use Rattle.exif_change.specs.declared.refusal.Refusal as change
use Rattle.exif_decisions.specs.Outcomes.{outcome_for}
use Rattle.exif_decisions.specs.declared.outcome.Outcome.{Outcome}
use Rattle.exif_decisions.specs.declared.outcome.Outcome.TheVariants as outcome
use Rattle.exif_files.specs.Statuses.{worse}
use Rattle.exif_files.specs.declared.changing.Failure.{Failure}
use Rattle.exif_files.specs.declared.changing.Report.{Report}
use Rattle.exif_files.specs.declared.outcome.Status.{Status}
use Rattle.exif_files.specs.declared.outcome.Status.TheVariants.{Incomplete}
use Rattle.exif_geotag.specs.Replaced.{stale_tags}
use Rattle.exif_geotag.specs.Walks.{TrackView}
use Rattle.exif_geotag.specs.declared.error.TrackError.{TrackError}
use Rattle.exif_geotag.specs.declared.fault.TrackFault.{TrackFault}
use Rattle.exif_geotag.specs.declared.relocating.Unfinished.{Unfinished}
use Rattle.exif_geotag.specs.declared.spot.Spot.{Spot}
use Rattle.exif_geotag.specs.declared.spot.Unlocated.{Unlocated}
use Rattle.exif_types.specs.declared.field.Field.{Field}
use Rattle.exif_commands.specs.declared.geotag.Located.{Located}
use Rattle.exif_commands.specs.declared.geotag.NoTrack.{NoTrack}
use Rattle.exif_commands.specs.declared.geotag.NoTrack.TheVariants.{Refused}

-- the track of a file that was read, or why it is none
abbrev pub track_answer : Result TrackView TrackError → Result TrackView NoTrack
track_answer (Ok track) = Ok track
track_answer (Err why) = Err (Refused why)

abbrev pub track_if : Result TrackView NoTrack → Option TrackView
track_if (Ok track) = Some track
track_if (Err why) = None

-- what a track lacks makes a run incomplete
abbrev pub beside_with : Option TrackFault → Status → Status
beside_with None status = status
beside_with (Some fault) status = worse status Incomplete

-- what a picture with these fields gets: its spot and what is of the old one, or why none
abbrev pub IsLocatedBy : List Field → Result Spot Unlocated → Result Located Unlocated → Type 0
IsLocatedBy fields (Ok spot) (Ok located) =
    (located.spot ≡ spot)
    × (located.stale.items ≡ stale_tags fields (is_some spot.fix.elevation))
IsLocatedBy fields (Ok spot) (Err why) = ⊥
IsLocatedBy fields (Err why) located = located ≡ Err why

-- what is counted of a file: what was left undone makes it incomplete
abbrev pub outcome_changed : Result (Report Unfinished Note) (Failure change.Refusal) → Outcome
outcome_changed (Ok report) = outcome_for (length report.left.items == 0)
outcome_changed (Err failure) = outcome.Refused
