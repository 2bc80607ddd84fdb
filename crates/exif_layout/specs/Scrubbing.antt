-- Scrubbing: fields written again without the location where a picture was taken and without values
-- of unknown types.
use Rattle.std.specs.Prelude.{◌≡◌, ◌&&◌, ◌≤◌, not, Bool, true, false, List, [], length, None}
use Rattle.std.specs.List.{All, filter}
use Rattle.exif_base.specs.declared.endian.Order.{Order}
use Rattle.exif_types.specs.Sound.{IsRead}
use Rattle.exif_table.specs.declared.context.Context.{Context}
use Rattle.exif_table.specs.declared.context.Context.TheVariants.{Tiff, Exif, Gps, Interop}
use Rattle.exif_types.specs.declared.field.Field.{Field}
use Rattle.exif_layout.specs.Flat.{flat}
use Rattle.exif_layout.specs.Groups.{Group}
use Rattle.exif_layout.specs.Image.{image}
use Rattle.exif_layout.specs.Ranged.{AreRanged, HavePlainTexts, AreReadable}
use Rattle.exif_layout.specs.ReadBack.{ReadsBack}
use Rattle.exif_layout.specs.Refused.{is_unknown, write_fault}
use Rattle.exif_layout.specs.Rewriting.{pushed_all, RewritesSame}

-- whether a context is that of the directory that says where a picture was taken (Exif 2.32, 4.6.6)
abbrev pub is_gps : Context → Bool
is_gps Tiff = false
is_gps Exif = false
is_gps Gps = true
is_gps Interop = false

-- whether scrubbing keeps a field
abbrev pub is_kept : Field → Bool
is_kept field = not (is_gps field.tag.0) && not (is_unknown field.value)

-- the fields that scrubbing keeps
abbrev pub kept : List Field → List Field
kept fields = filter is_kept fields

-- the groups that pushing them into a new writer makes, without blocks
abbrev pub scrubbed : List Field → List Group
scrubbed fields = pushed_all (kept fields) []

-- what scrubbing leaves of fields that were read: texts and directories that are read back, and
-- only what it keeps
pub record LeavesKept (fields : List Field) : Type 0 where
  pub plain : HavePlainTexts (scrubbed fields)
  pub few : length (scrubbed fields) ≤ 8
  pub without_gps : All (λ field. is_gps field.tag.0 ≡ false) (flat (scrubbed fields))
  pub without_unknown : All (λ field. is_unknown field.value ≡ false) (flat (scrubbed fields))
  pub all_kept : kept (flat (scrubbed fields)) ≡ flat (scrubbed fields)

-- where the fields are such as reading gives, only what scrubbing keeps is left of them
abbrev pub ScrubsToKept : List Field → Type 0
ScrubsToKept fields = All IsRead fields → LeavesKept fields

-- where writing what was read gives the same image, scrubbing twice is scrubbing once
abbrev pub ScrubsOnce : Order → List Field → Type 0
ScrubsOnce order fields =
    RewritesSame order (scrubbed fields)
    → image order (scrubbed (flat (scrubbed fields))) ≡ image order (scrubbed fields)

-- what scrubbing promises of the image: it is read as what is kept, and scrubbed again it is the
-- same
pub record IsScrubbed (order : Order) (fields : List Field) : Type 0 where
  pub readable : AreReadable (scrubbed fields)
  pub reads_back : ReadsBack order (scrubbed fields)
  pub once : image order (scrubbed (flat (scrubbed fields))) ≡ image order (scrubbed fields)

-- the same where the scrubbed groups are such as a writer holds, and are not refused
abbrev pub Scrubs : Order → List Field → Type 0
Scrubs order fields =
    All IsRead fields → AreRanged (scrubbed fields) → write_fault (scrubbed fields) ≡ None
    → IsScrubbed order fields
