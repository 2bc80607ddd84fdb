-- The state of a walk over the tokens of a GPX file (GPX 1.1, `trkptType`).
use Rattle.std.specs.Prelude.{ℕ, ◌+◌, ◌-◌, ◌==◌, ◌&&◌, not, nat_lt, Bool, true, false, if◌then◌else◌, List, take, codes, Option, Some, None, Result, Ok, Err}
use Rattle.std.specs.Str.{bytes_eq}
use Rattle.exif_locations.specs.XmpScans.{is_name_byte, run}
use Rattle.exif_locations.specs.declared.xmp.fault.Fault.TheVariants.{Malformed}
use Rattle.exif_geotag.specs.declared.element.Element.{Element}
use Rattle.exif_geotag.specs.declared.element.Element.TheVariants.{Gpx, TrackPoint, Time, Elevation, Other}
use Rattle.exif_geotag.specs.declared.error.TrackError.{TrackError}
use Rattle.exif_geotag.specs.declared.error.TrackError.TheVariants.{Xml, NotGpx}
use Rattle.exif_geotag.specs.declared.state.Draft.{Draft}
use Rattle.exif_geotag.specs.declared.state.Found.{Found}
use Rattle.exif_geotag.specs.declared.state.Found.TheVariants.{Nothing, Skipped, Kept}
use Rattle.exif_geotag.specs.declared.state.State.{State}
use Rattle.exif_geotag.specs.Elements.{quoted_in, text_of}
use Rattle.exif_geotag.specs.Numbers.{number_of}
use Rattle.exif_geotag.specs.Texts.{trimmed}
use Rattle.exif_geotag.specs.Times.{time_of}

-- a point of which nothing is known
abbrev pub empty_draft : Draft
empty_draft = record { time = None; latitude = None; longitude = None; elevation = None }

-- the state at the front of a file
abbrev pub at_start : State
at_start = record {
  in_tag = false;
  element = Other;
  rooted = false;
  depth = 0;
  inside = 0;
  draft = empty_draft;
}

-- the point of a time, a latitude, a longitude and an elevation, if it has the first three
abbrev pub found_with : Option ℕ → Option ℕ → Option ℕ → Option ℕ → Found
found_with (Some time) (Some latitude) (Some longitude) elevation =
    Kept (record { time = time; latitude = latitude; longitude = longitude; elevation = elevation })
found_with (Some time) (Some latitude) None elevation = Skipped
found_with (Some time) None longitude elevation = Skipped
found_with None latitude longitude elevation = Skipped

-- the point of a draft, if it is complete
abbrev pub found_of : Draft → Found
found_of draft = found_with draft.time draft.latitude draft.longitude draft.elevation

-- whether an element is the root of GPX
abbrev pub is_gpx : Element → Bool
is_gpx Gpx = true
is_gpx TrackPoint = false
is_gpx Time = false
is_gpx Elevation = false
is_gpx Other = false

-- how many of the open elements are a point and within it, when an element opens that is in none
abbrev pub first_inside : Element → ℕ
first_inside Gpx = 0
first_inside TrackPoint = 1
first_inside Time = 0
first_inside Elevation = 0
first_inside Other = 0

-- how many of the open elements are a point and within it, when one more opens
abbrev pub inside_of : ℕ → Element → ℕ
inside_of inside element = if nat_lt 0 inside then inside + 1 else first_inside element

-- an element opens
abbrev pub entered : State → Bool → Element → State
entered s in_tag element = record {
  in_tag = in_tag;
  element = element;
  rooted = true;
  depth = s.depth + 1;
  inside = inside_of s.inside element;
  draft = (if inside_of s.inside element == 1 then empty_draft else s.draft);
}

-- an element opens; the outermost one has to be `gpx`
unfoldable pub enter : State → Bool → Element → Result State TrackError
enter s in_tag element =
    if (s.depth == 0) && not (is_gpx element) then Err NotGpx else Ok (entered s in_tag element)

-- the state behind the end of an element, and what it has completed
abbrev pub left : State → State × Found
left s = (
  record {
    in_tag = false;
    element = s.element;
    rooted = s.rooted;
    depth = s.depth - 1;
    inside = s.inside - 1;
    draft = s.draft;
  },
  (if s.inside == 1 then found_of s.draft else Nothing),
)

-- an element ends
unfoldable pub leave : State → Result (State × Found) TrackError
leave s = if s.depth == 0 then Err (Xml Malformed) else Ok (left s)

-- a point with the value of a child element
abbrev pub with_value : Element → Draft → List ℕ → Draft
with_value Time draft value = record draft { time = time_of value }
with_value Elevation draft value = record draft { elevation = number_of 1000000000 1000 value }
with_value Gpx draft value = draft
with_value TrackPoint draft value = draft
with_value Other draft value = draft

-- the content of an element begins: that of a child of a point is read
unfoldable pub with_text : State → List ℕ → State
with_text s rest =
    if s.inside == 2
    then record s { draft = with_value s.element s.draft (trimmed (text_of rest)) } else s

-- a point with the value of an attribute
abbrev pub with_angle : List ℕ → Draft → List ℕ → Draft
with_angle name draft value =
    if bytes_eq name (codes "lat")
    then record draft { latitude = number_of 900000000 10000000 value }
    else (if bytes_eq name (codes "lon")
    then record draft { longitude = number_of 1800000000 10000000 value } else draft)

-- an attribute is at the front: that of a point is read
unfoldable pub with_attribute : State → List ℕ → State
with_attribute s input =
    if s.inside == 1
    then record s {
      draft = with_angle (take (run is_name_byte input) input) s.draft (trimmed (quoted_in input));
    }
    else s
