-- Which parts of a file hold a location.
use Rattle.std.specs.Prelude.{ℕ, List, [], ◌∷◌, length, map, Bool, true, false, ◌&&◌, Option, Some, if◌then◌else◌}
use Rattle.std.specs.List.{list_all, list_any}
use Rattle.std.specs.Option.{option_map}
use Rattle.exif_inventory.specs.declared.kind.Kind.TheVariants.{Picture}
use Rattle.exif_inventory.specs.declared.part.Part.{Part}
use Rattle.exif_privacy.specs.Files.{parts_of}
use Rattle.exif_privacy.specs.Judging.{judged}
use Rattle.exif_privacy.specs.declared.remaining.Reason.{Reason}
use Rattle.exif_privacy.specs.declared.remaining.Reason.TheVariants.{GpsVersion, InExif, StillThere}
use Rattle.exif_data_locations.specs.declared.reason.Reason.TheVariants.{MakerNote}
use Rattle.exif_locations.specs.declared.unread.Unread.TheVariants.{Keep}
use Rattle.exif_scrub.specs.TiffScrubbing.{is_settled}
use Rattle.exif_check.specs.declared.checked.Checked.{Checked}
use Rattle.exif_check.specs.declared.checked.Location.{Location}
use Rattle.exif_check.specs.declared.checked.Location.TheVariants.{Absent, Present, Unknown}

-- the one of two judgements that weighs more
abbrev pub location_among : Location → Location → Location
location_among Present other = Present
location_among Unknown Present = Present
location_among Unknown Unknown = Unknown
location_among Unknown Absent = Unknown
location_among Absent other = other

-- what a reason says of a part: erasing would change it, and it holds a location then, unless that is
-- the version of GPS data alone; or it may hold one
abbrev pub weight : Reason → Location
weight StillThere = Present
weight GpsVersion = Absent
weight why = Unknown

-- the heaviest of what these reasons say, behind another one
abbrev pub location_by_from : Location → List Reason → Location
location_by_from so_far [] = so_far
location_by_from so_far (why ∷ whys) = location_by_from (location_among so_far (weight why)) whys

-- whether a part with these reasons holds a location
abbrev pub location_by : List Reason → Location
location_by whys = location_by_from Absent whys

-- whether a reason is that of a maker note
abbrev pub is_maker_note : Reason → Bool
is_maker_note (InExif MakerNote) = true
is_maker_note _ = false

-- whether a reason is no other one for which a part may hold a location
abbrev pub is_no_other : Reason → Bool
is_no_other GpsVersion = true
is_no_other why = is_maker_note why

-- whether a part with these reasons may hold a location in a maker note only
abbrev pub only_maker_note : List Reason → Bool
only_maker_note whys = list_any is_maker_note whys && list_all is_no_other whys

-- a part of a file with its judgement
abbrev pub part_checked : Part × List Reason → Checked
part_checked (part, whys) =
    record { part = part; location = location_by whys; maker_note = only_maker_note whys }

-- these parts of a file with theirs
abbrev pub parts_checked : List ℕ → List Part → List Checked
parts_checked file parts = map part_checked (judged Keep file parts)

-- a TIFF file of so many bytes that is nothing but its picture
abbrev pub picture_alone : ℕ → Checked
picture_alone len = record {
  part = record {
    kind = Picture;
    picture = 0;
    offset = 0;
    len = len;
    data_offset = 0;
    data_len = len;
  };
  location = Absent;
  maker_note = false;
}

-- all parts of a file with theirs, if its format is known; a TIFF file is its picture alone if all
-- of its tags describe that, and nothing else is in it
abbrev pub checked : List ℕ → Option (List Checked)
checked file =
    if is_settled true file then Some (picture_alone (length file) ∷ [])
    else option_map (parts_checked file) (parts_of file)

-- the heaviest of all judgements, behind another one
abbrev pub location_behind : Location → List Checked → Location
location_behind so_far [] = so_far
location_behind so_far (c ∷ cs) = location_behind (location_among so_far c.location) cs

-- whether a part holds no location, but for what a maker note may hold
abbrev pub maker_note_at_most_by : Bool → Location → Bool
maker_note_at_most_by true location = true
maker_note_at_most_by false Absent = true
maker_note_at_most_by false Present = false
maker_note_at_most_by false Unknown = false

abbrev pub maker_note_at_most : Checked → Bool
maker_note_at_most c = maker_note_at_most_by c.maker_note c.location

-- whether all parts are such
abbrev pub only_maker_notes : List Checked → Bool
only_maker_notes parts = list_all maker_note_at_most parts

-- whether a file with these parts holds a location
abbrev pub location_of : List Checked → Location
location_of parts = location_behind Absent parts
