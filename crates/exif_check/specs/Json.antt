-- The parts of a file as JSON.
use Rattle.std.specs.Prelude.{ℕ, List, [], ◌∷◌, ◌++◌, codes, map, Option}
use Rattle.json.specs.Json as J
use Rattle.json.specs.Json.{Json}
use Rattle.exif_formats.specs.declared.format.PictureFormat.{PictureFormat}
use Rattle.exif_json.specs.Files.{file_members}
use Rattle.exif_json.specs.Trees.{array, object, unsigned}
use Rattle.exif_check.specs.Checking.{location_of}
use Rattle.exif_check.specs.Names.{kind_name, location_name, part_location_name}
use Rattle.exif_check.specs.declared.checked.Checked.{Checked}

-- the members of a part
abbrev pub part_members : Checked → List (List ℕ × Json)
part_members checked =
    (codes "kind", J.string (kind_name checked.part.kind))
    ∷ (codes "picture", unsigned checked.part.picture)
    ∷ (codes "offset", unsigned checked.part.offset)
    ∷ (codes "length", unsigned checked.part.len)
    ∷ (codes "location", J.string (part_location_name checked)) ∷ []

-- a part
abbrev pub part_json : Checked → Json
part_json checked = object (part_members checked)

-- the parts, in their order
abbrev pub parts_json : List Checked → Json
parts_json parts = array (map part_json parts)

-- the judgement of a file, and its parts
abbrev pub judged_members : List Checked → List (List ℕ × Json)
judged_members parts =
    (codes "location", J.string (location_name (location_of parts)))
    ∷ (codes "parts", parts_json parts) ∷ []

-- a file that was checked
abbrev pub checked_json : List ℕ → Option PictureFormat → List Checked → Json
checked_json path format parts = object (file_members path format ++ judged_members parts)
