-- Looking for a field by its tag and its directory.
use Rattle.std.specs.Prelude.{◌≡◌, ◌==◌, ◌&&◌, Bool, true, false, List, ◌∷◌, ◌++◌, All, Option, find, reverse}
use Rattle.exif_table.specs.declared.context.Context.{Context}
use Rattle.exif_table.specs.declared.context.Context.TheVariants.{Tiff, Exif, Gps, Interop}
use Rattle.exif_text.specs.declared.ifd.In.{In}
use Rattle.exif_types.specs.declared.tag.Tag.{Tag}
use Rattle.exif_types.specs.declared.field.Field.{Field}

-- whether two contexts are one
abbrev pub context_eq : Context → Context → Bool
context_eq Tiff Tiff = true
context_eq Exif Exif = true
context_eq Gps Gps = true
context_eq Interop Interop = true
context_eq _ _ = false

-- whether two tags are one
abbrev pub tag_eq : Tag → Tag → Bool
tag_eq a b = context_eq a.0 b.0 && (a.1 == b.1)

-- whether a field has this tag, in this directory
abbrev pub is_named : Tag → In → Field → Bool
is_named tag ifd_num field = tag_eq field.tag tag && (field.ifd_num.0 == ifd_num.0)

-- the last field with a tag and a directory
abbrev pub last_named : List Field → Tag → In → Option Field
last_named fields tag ifd_num = find (is_named tag ifd_num) (reverse fields)

-- a field has this tag, in this directory
abbrev pub HasName : Tag → In → Field → Type 0
HasName tag ifd_num field = (field.tag ≡ tag) × (field.ifd_num ≡ ifd_num)

-- none of the fields has this tag in this directory
abbrev pub NoneNamed : Tag → In → List Field → Type 0
NoneNamed tag ifd_num fields = All (λ field. ¬ (HasName tag ifd_num field)) fields

-- the field has the tag and the directory, and none behind it has them
abbrev pub IsLastNamed : Tag → In → List Field → Field → Type 0
IsLastNamed tag ifd_num fields field =
    (before : List Field) × (behind : List Field) × (fields ≡ before ++ field ∷ behind)
    × HasName tag ifd_num field × NoneNamed tag ifd_num behind
