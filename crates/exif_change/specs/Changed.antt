-- What the program makes of a file: the new bytes, and what it left undone.
use Rattle.std.specs.Prelude.{ℕ, List, [], map, Option, Some}
use Rattle.std.specs.Option.{option_map}
use Rattle.exif_types.specs.declared.tag.Tag.{Tag}
use Rattle.exif_edit_base.specs.Causes.{Cause, cause_of}
use Rattle.exif_datetime.specs.declared.shift.Unmoved.{Unmoved}
use Rattle.exif_inventory.specs.declared.part.Part.{Part}
use Rattle.exif_privacy.specs.declared.remaining.Remaining.{Remaining}
use Rattle.exif_change.specs.declared.changed.Changed.{Changed}
use Rattle.exif_change.specs.declared.changed.Residual.{Residual}
use Rattle.exif_change.specs.declared.changed.Residual.TheVariants as left

-- what was left undone, as plain data
pub data Undone : Type 0 where
  unmoved : Tag → Unmoved → Undone
  unset : Tag → Cause → Undone
  cut_off : Undone
  stays : Remaining → Undone
  still_there : Part → Undone
  color_kept : Undone
  other_dates : Undone

-- what the program says of it; a refused edit has a cause
abbrev pub undone_of : Residual → Option Undone
undone_of (left.Date tag why) = Some (unmoved tag why)
undone_of (left.Edit tag e) = option_map (unset tag) (cause_of e)
undone_of left.CutOff = Some cut_off
undone_of (left.Remaining s) = Some (stays s)
undone_of (left.Part part) = Some (still_there part)
undone_of left.Color = Some color_kept
undone_of left.OtherDates = Some other_dates

-- the new bytes of a file, and what was left undone
pub record Change : Type 0 where
  pub file : List ℕ
  pub undone : List (Option Undone)

-- those that a call answers
abbrev pub change_of : Changed → Change
change_of changed = record { file = changed.file.items; undone = map undone_of changed.left.items }

-- a file of which nothing was left undone
abbrev pub whole : List ℕ → Change
whole file = record { file = file; undone = [] }
