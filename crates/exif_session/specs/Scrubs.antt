-- What `scrub` removes, by its options.
use Rattle.std.specs.Prelude.{ℕ, List, Bool, true, false, not, ◌&&◌, Option, None, Some, if◌then◌else◌, codes}
use Rattle.exif_change.specs.declared.notes.Color.{Color}
use Rattle.exif_change.specs.declared.notes.Color.TheVariants.{Keep, Strip}
use Rattle.exif_change.specs.declared.scrubbing.Removed.{Removed}
use Rattle.exif_change.specs.declared.scrubbing.Removed.TheVariants.{AllButOrientation, Gps, Metadata}
use Rattle.exif_locations.specs.declared.unread.Unread.{Unread}
use Rattle.exif_locations.specs.declared.unread.Unread.TheVariants as unread
use Rattle.exif_session.specs.declared.request.Change.{Change}
use Rattle.exif_session.specs.declared.request.Change.TheVariants.{Scrub}
use Rattle.exif_session.specs.declared.scrubbing.ScrubOption.{ScrubOption}
use Rattle.exif_session.specs.declared.scrubbing.ScrubOption.TheVariants.{KeepOrientation, StripColor, LocationsOnly, ForceBlank}
use Rattle.exif_session.specs.declared.scrubbing.ScrubOptions.{ScrubOptions}

-- the names that are written on a command line
abbrev pub option_name : ScrubOption → List ℕ
option_name KeepOrientation = codes "keep-orientation"
option_name StripColor = codes "strip-color"
option_name LocationsOnly = codes "locations-only"
option_name ForceBlank = codes "force-blank"

-- what becomes of XMP and IPTC that can't be read
abbrev pub unread_by : Bool → Unread
unread_by true = unread.Blank
unread_by false = unread.Keep

-- what is removed: locations alone, all but the orientation, or all
abbrev pub removed_by : ScrubOptions → Removed
removed_by given =
    if given.locations_only then Gps (unread_by given.force_blank) else
    if given.keep_orientation then AllButOrientation else Metadata

-- what becomes of the colour profile
abbrev pub color_by : Bool → Color
color_by true = Strip
color_by false = Keep

-- the change that options ask for; what can't be read is overwritten only with locations
abbrev pub scrub_for : ScrubOptions → Option Change
scrub_for given =
    if given.force_blank && not given.locations_only then None
    else Some (Scrub (removed_by given) (color_by given.strip_color))
