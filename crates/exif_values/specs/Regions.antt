-- The names of people in the regions of a picture (Metadata Working Group, Guidelines for Handling
-- Image Metadata, 2.0, 5.9; Microsoft, People Tagging Overview).
use Rattle.std.specs.Prelude.{ℕ, ◌+◌, ◌==◌, ◌&&◌, not, Bool, true, false, List, [], ◌∷◌, ◌++◌, length, take, drop, position, codes, Option, None, Some, if◌then◌else◌}
use Rattle.std.specs.Str.{bytes_eq}
use Rattle.exif_xmp.specs.Properties.{PropertyView}
use Rattle.exif_values.specs.Arrays.{index_of, text_of, with_text}
use Rattle.exif_values.specs.declared.regions.Field.{Field}
use Rattle.exif_values.specs.declared.regions.Region.{Region}

-- a field of an item of an array of structures: the index of the item, and the name with `/`
pub record FieldView : Type 0 where
  pub index : List ℕ
  pub name : List ℕ

abbrev pub field_view : Field → FieldView
field_view f = record { index = f.index.now; name = f.name.now }

-- a region: its index, its name, which may be empty, and whether it is a face
pub record RegionView : Type 0 where
  pub index : List ℕ
  pub name : List ℕ
  pub is_face : Bool

abbrev pub region_view : Region → RegionView
region_view r = record { index = r.index.now; name = r.name.now; is_face = r.is_face }

-- the field whose index ends before `]`
abbrev pub field_to : List ℕ → Option ℕ → Option FieldView
field_to rest None = None
field_to rest (Some end) =
    Some (record { index = take end rest; name = drop (end + 1) rest })

abbrev pub field_at : List ℕ → Option FieldView
field_at rest = field_to rest (position (λ b. b == 93) rest)

-- the field that a property is, if it is one of this array, whose name ends with `[`
abbrev pub field_behind : Option (List ℕ) → Option FieldView
field_behind None = None
field_behind (Some rest) = field_at rest

abbrev pub field_of : List ℕ → List ℕ → PropertyView → Option FieldView
field_of namespace array p = field_behind (index_of namespace array p)

-- the field of a region
abbrev pub region_field : PropertyView → Option FieldView
region_field p =
    field_of (codes "http://www.metadataworkinggroup.com/schemas/regions/")
    (codes "mwg-rs:Regions/mwg-rs:RegionList[") p

-- a region of which nothing is known but its index
abbrev pub begun : List ℕ → RegionView
begun index = record { index = index; name = []; is_face = false }

-- a region with what a field says: the first name counts
abbrev pub with_field : RegionView → List ℕ → List ℕ → RegionView
with_field r name text =
    if bytes_eq name (codes "/mwg-rs:Name") && (length r.name == 0)
    then record { index = r.index; name = text; is_face = r.is_face } else
    (if bytes_eq name (codes "/mwg-rs:Type") && bytes_eq text (codes "Face")
    then record { index = r.index; name = r.name; is_face = true } else r)

-- names with that of a region, if it is a face and has one
abbrev pub with_face : List (List ℕ) → RegionView → List (List ℕ)
with_face names r =
    if r.is_face && not (length r.name == 0) then names ++ r.name ∷ [] else names

-- what is known behind a field, which may begin another region
pub record Names : Type 0 where
  pub names : List (List ℕ)
  pub region : RegionView

abbrev pub at_field : Names → FieldView → List ℕ → Names
at_field known f text =
    if bytes_eq f.index known.region.index
    then record { names = known.names; region = with_field known.region f.name text }
    else record {
      names = with_face known.names known.region;
      region = with_field (begun f.index) f.name text;
    }

abbrev pub with_option : Names → Option FieldView → List ℕ → Names
with_option known None text = known
with_option known (Some f) text = at_field known f text

-- the names behind properties
abbrev pub names_from : Names → List PropertyView → List (List ℕ)
names_from known [] = with_face known.names known.region
names_from known (p ∷ ps) = names_from (with_option known (region_field p) p.text) ps

-- the names of the regions that are faces, in order; the fields of a region are next to one another
abbrev pub region_names : List PropertyView → List (List ℕ)
region_names ps = names_from (record { names = []; region = begun [] }) ps

-- the name that a property has of a person, as programs of Microsoft write it
abbrev pub name_at : Option FieldView → PropertyView → Option (List ℕ)
name_at None p = None
name_at (Some f) p =
    if bytes_eq f.name (codes "/MPReg:PersonDisplayName") then text_of p else None

abbrev pub person_name : PropertyView → Option (List ℕ)
person_name p =
    name_at (field_of (codes "http://ns.microsoft.com/photo/1.2/")
    (codes "MP:RegionInfo/MPRI:Regions[") p) p

-- the names of people in regions, as programs of Microsoft write them, in order
abbrev pub microsoft_names : List PropertyView → List (List ℕ)
microsoft_names [] = []
microsoft_names (p ∷ ps) = with_text (person_name p) (microsoft_names ps)
