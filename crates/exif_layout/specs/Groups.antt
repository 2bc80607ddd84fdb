-- What the calls on a writer say: for each directory of the chain its pushed entries by context,
-- and its blocks (TIFF 6.0, section 2; Exif 2.32, 4.6.3).
use Rattle.std.specs.Prelude.{ℕ, zero, suc, ◌==◌, Bool, List, [], ◌∷◌, ◌++◌, Option, Some, None, if◌then◌else◌}
use Rattle.std.specs.List.{list_any}
use Rattle.exif_types.specs.declared.value.Value.{Value}
use Rattle.exif_table.specs.declared.context.Context.{Context}
use Rattle.exif_table.specs.declared.context.Context.TheVariants.{Tiff, Exif, Gps, Interop}
use Rattle.exif_types.specs.declared.field.Field.{Field}
use Rattle.exif_layout.specs.declared.block_kind.BlockKind.{BlockKind}
use Rattle.exif_layout.specs.declared.block_kind.BlockKind.TheVariants.{Strips, Tiles, Jpeg}

-- a pushed field, in the directory that its context and number name
pub record Entry : Type 0 where
  pub tag : ℕ
  pub value : Value

-- a directory of the chain with its children, and its blocks where they are set
pub record Group : Type 0 where
  pub tiff : List Entry
  pub exif : List Entry
  pub gps : List Entry
  pub interop : List Entry
  pub strips : Option (List (List ℕ))
  pub tiles : Option (List (List ℕ))
  pub jpeg : Option (List ℕ)

-- a group without entries and without blocks
abbrev pub empty_group : Group
empty_group =
    record {
      tiff = [];
      exif = [];
      gps = [];
      interop = [];
      strips = None;
      tiles = None;
      jpeg = None;
    }

-- what is pushed in a context
abbrev pub pushed_in : Group → Context → List Entry
pushed_in group Tiff = group.tiff
pushed_in group Exif = group.exif
pushed_in group Gps = group.gps
pushed_in group Interop = group.interop

-- a JPEG as a list of blocks, of which it is the only one
abbrev pub single : Option (List ℕ) → Option (List (List ℕ))
single None = None
single (Some text) = Some (text ∷ [])

-- the blocks of a kind, where they are set
abbrev pub blocks_in : Group → BlockKind → Option (List (List ℕ))
blocks_in group Strips = group.strips
blocks_in group Tiles = group.tiles
blocks_in group Jpeg = single group.jpeg

-- the tag of the field that gives the offsets of the blocks of a kind
abbrev pub offsets_tag : BlockKind → ℕ
offsets_tag Strips = 0x111
offsets_tag Tiles = 0x144
offsets_tag Jpeg = 0x201

-- the tag of the field that gives the lengths of the blocks of a kind
abbrev pub lengths_tag : BlockKind → ℕ
lengths_tag Strips = 0x117
lengths_tag Tiles = 0x145
lengths_tag Jpeg = 0x202

-- the tags that the writer makes itself
abbrev pub own_tags : Context → List ℕ
own_tags Tiff = 0x111 ∷ 0x117 ∷ 0x144 ∷ 0x145 ∷ 0x201 ∷ 0x202 ∷ 0x8769 ∷ 0x8825 ∷ []
own_tags Exif = 0xa005 ∷ []
own_tags Gps = []
own_tags Interop = []

-- a push of such a tag does nothing
abbrev pub is_ignored : Context → ℕ → Bool
is_ignored context tag = list_any (λ own. tag == own) (own_tags context)

-- the entry that a field is pushed as: the number of its tag, and its value
abbrev pub entry_of : Field → Entry
entry_of field = record { tag = field.tag.1; value = field.value }

-- the group with one more entry, behind those that are pushed in the context
abbrev pub with_entry : Context → Entry → Group → Group
with_entry Tiff entry group = record group { tiff = group.tiff ++ entry ∷ [] }
with_entry Exif entry group = record group { exif = group.exif ++ entry ∷ [] }
with_entry Gps entry group = record group { gps = group.gps ++ entry ∷ [] }
with_entry Interop entry group = record group { interop = group.interop ++ entry ∷ [] }

-- the group with these strips set, in place of what was set before
abbrev pub with_strips : List (List ℕ) → Group → Group
with_strips strips group = record group { strips = Some strips }

-- the group with these tiles set, in place of what was set before
abbrev pub with_tiles : List (List ℕ) → Group → Group
with_tiles tiles group = record group { tiles = Some tiles }

-- the group with this JPEG set, in place of what was set before
abbrev pub with_jpeg : List ℕ → Group → Group
with_jpeg jpeg group = record group { jpeg = Some jpeg }

-- the groups with the one of a number changed, where needed after new empty ones
abbrev pub changed : ℕ → (Group → Group) → List Group → List Group
changed zero change [] = change empty_group ∷ []
changed zero change (group ∷ groups) = change group ∷ groups
changed (suc ifd) change [] = empty_group ∷ changed ifd change []
changed (suc ifd) change (group ∷ groups) = group ∷ changed ifd change groups

-- the groups after a field is pushed into the directory with its number
abbrev pub pushed : Field → List Group → List Group
pushed field groups =
    if is_ignored field.tag.0 field.tag.1 then groups
    else changed field.ifd_num.0 (with_entry field.tag.0 (entry_of field)) groups

-- the groups after strips are set in the directory with a number
abbrev pub strips_set : List (List ℕ) → ℕ → List Group → List Group
strips_set strips ifd groups = changed ifd (with_strips strips) groups

-- the groups after tiles are set in the directory with a number
abbrev pub tiles_set : List (List ℕ) → ℕ → List Group → List Group
tiles_set tiles ifd groups = changed ifd (with_tiles tiles) groups

-- the groups after a JPEG is set in the directory with a number
abbrev pub jpeg_set : List ℕ → ℕ → List Group → List Group
jpeg_set jpeg ifd groups = changed ifd (with_jpeg jpeg) groups
