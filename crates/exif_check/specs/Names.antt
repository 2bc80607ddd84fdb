-- The names of kinds and judgements, and which parts are listed for people.
use Rattle.std.specs.Prelude.{ℕ, List, [], ◌++◌, codes, nat_lt, Bool, true, false, if◌then◌else◌}
use Rattle.std.specs.Fmt.{decimal}
use Rattle.exif_inventory.specs.KindTexts.{kind_text}
use Rattle.exif_inventory.specs.declared.kind.Kind.{Kind}
use Rattle.exif_inventory.specs.declared.kind.Kind.TheVariants as kind
use Rattle.exif_inventory.specs.declared.part.Part.{Part}
use Rattle.exif_check.specs.declared.checked.Checked.{Checked}
use Rattle.exif_check.specs.declared.checked.Location.{Location}
use Rattle.exif_check.specs.declared.checked.Location.TheVariants.{Absent, Present, Unknown}

-- the name of a kind
abbrev pub kind_name : Kind → List ℕ
kind_name kind.Picture = codes "picture"
kind_name kind.Jfif = codes "jfif"
kind_name kind.JfifThumbnail = codes "jfif_thumbnail"
kind_name kind.Exif = codes "exif"
kind_name kind.Xmp = codes "xmp"
kind_name kind.ExtendedXmp = codes "extended_xmp"
kind_name kind.Photoshop = codes "photoshop"
kind_name kind.PhotoshopExif = codes "photoshop_exif"
kind_name kind.PhotoshopXmp = codes "photoshop_xmp"
kind_name kind.PhotoshopOther = codes "photoshop_other"
kind_name kind.Iptc = codes "iptc"
kind_name kind.Comment = codes "comment"
kind_name kind.IccProfile = codes "icc_profile"
kind_name kind.Adobe = codes "adobe"
kind_name kind.MultiPicture = codes "multi_picture"
kind_name kind.ContentCredentials = codes "content_credentials"
kind_name kind.Trailer = codes "trailer"
kind_name kind.Unknown = codes "unknown"
kind_name kind.Broken = codes "broken"

-- the name of a judgement
abbrev pub location_name : Location → List ℕ
location_name Absent = codes "no"
location_name Present = codes "yes"
location_name Unknown = codes "unknown"

-- the name of the judgement of a part: a maker note, where it may hold a location there only
abbrev pub part_location_name : Checked → List ℕ
part_location_name checked =
    if checked.maker_note then codes "maker_note" else location_name checked.location

-- what a line says of a part
abbrev pub judgement : Location → Bool → List ℕ
judgement Absent maker_note = codes ": no location"
judgement Present maker_note = codes ": a location"
judgement Unknown true = codes ": may hold a location in its maker note"
judgement Unknown false = codes ": may hold a location"

-- whether a part of this kind and picture is none of those that make up the first picture
abbrev pub is_metadata_kind : Kind → ℕ → Bool
is_metadata_kind kind.Picture picture = nat_lt 0 picture
is_metadata_kind kind.Jfif picture = nat_lt 0 picture
is_metadata_kind kind.Adobe picture = nat_lt 0 picture
is_metadata_kind _ picture = true

-- the same of a part
abbrev pub is_metadata : Part → Bool
is_metadata part = is_metadata_kind part.kind part.picture

-- whether a part is listed: where it holds a location or may hold one, and else where it is
-- metadata
abbrev pub is_listed_by : Location → Part → Bool
is_listed_by Absent part = is_metadata part
is_listed_by Present part = true
is_listed_by Unknown part = true

abbrev pub is_listed : Checked → Bool
is_listed checked = is_listed_by checked.location checked.part

-- which picture a part belongs to, where that is not the first one
abbrev pub picture_text : ℕ → List ℕ
picture_text picture =
    if nat_lt 0 picture then codes " in or before further picture " ++ decimal picture else []

-- the kind of a part, its offset and its length
abbrev pub part_text : Part → List ℕ
part_text part =
    kind_text part.kind ++ (codes " at offset " ++ (decimal part.offset
    ++ (codes " (" ++ (decimal part.len ++ codes " bytes)"))))

-- the line of a part
abbrev pub line_text : Checked → List ℕ
line_text checked =
    part_text checked.part
    ++ (picture_text checked.part.picture ++ judgement checked.location checked.maker_note)
