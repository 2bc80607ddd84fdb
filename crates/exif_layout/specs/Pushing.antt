-- What is promised of the groups that pushing fields makes, and of the fields that their image has.
use Rattle.std.specs.Prelude.{ℕ, ◌^◌, ◌<◌, ◌≤◌, ◌≡◌, ◌⊎◌, List, [], length, map, get_or, Some, None}
use Rattle.std.specs.List.{All, Contains}
use Rattle.exif_types.specs.Sound.{HasPlainTexts}
use Rattle.exif_types.specs.declared.value.Value.TheVariants.{Long}
use Rattle.exif_table.specs.declared.context.Context.{Context}
use Rattle.exif_table.specs.declared.context.Context.TheVariants.{Tiff}
use Rattle.exif_types.specs.declared.field.Field.{Field}
use Rattle.exif_layout.specs.declared.block_kind.BlockKind.{BlockKind}
use Rattle.exif_layout.specs.Calls.{entries_into}
use Rattle.exif_layout.specs.Encoding.{moved_to}
use Rattle.exif_layout.specs.Flat.{field_of, flat}
use Rattle.exif_layout.specs.Groups.{Group, Entry, empty_group, blocks_in, pushed_in, offsets_tag, lengths_tag}
use Rattle.exif_layout.specs.Ranged.{IsRanged, AreRanged, HavePlainTexts}
use Rattle.exif_layout.specs.Rewriting.{pushed_all, all_blocks_set}
use Rattle.exif_layout.specs.Slots.{Slot, known, in_tag_order}

-- pushed fields with plain texts leave plain groups plain
abbrev pub PushesPlainTexts : List Field → List Group → Type 0
PushesPlainTexts fields groups =
    All (λ field. HasPlainTexts field.value) fields → HavePlainTexts groups
    → HavePlainTexts (pushed_all fields groups)

-- a field of numbers that fit their types, as each field of a program
pub record IsFieldRanged (field : Field) : Type 0 where
  pub tag : field.tag.1 < 2 ^ 16
  pub value : IsRanged field.value

-- pushed fields of numbers that fit leave such groups such
abbrev pub PushesRanged : List Field → List Group → Type 0
PushesRanged fields groups =
    All IsFieldRanged fields → AreRanged groups → AreRanged (pushed_all fields groups)

-- fields with numbers of directories below n make no more than n directories
abbrev pub PushesFew : ℕ → List Field → List Group → Type 0
PushesFew n fields groups =
    All (λ field. field.ifd_num.0 < n) fields → length groups ≤ n
    → length (pushed_all fields groups) ≤ n

-- no blocks are set
abbrev pub HaveNoBlocks : List Group → Type 0
HaveNoBlocks groups = All (λ group. (kind : BlockKind) → blocks_in group kind ≡ None) groups

-- pushing sets no blocks
abbrev pub PushesNoBlocks : List Field → List Group → Type 0
PushesNoBlocks fields groups = HaveNoBlocks groups → HaveNoBlocks (pushed_all fields groups)

-- setting no blocks changes nothing
abbrev pub SetsNothing : List Group → List Group → Type 0
SetsNothing from groups = HaveNoBlocks from → all_blocks_set 0 from groups ≡ groups

-- the field holds a pushed entry of its directory, an undefined value with the offset where it
-- is now
pub record IsPushed (groups : List Group) (field : Field) : Type 0 where
  pub entry : Entry
  pub offset : ℕ
  pub pushed : Contains (pushed_in (get_or groups field.ifd_num.0 empty_group) field.tag.0) entry
  pub moved : field ≡ field_of field.tag.0 entry.tag field.ifd_num.0 (moved_to offset entry.value)

-- the field is one of the two that name blocks of its directory
pub record NamesBlocks (groups : List Group) (field : Field) : Type 0 where
  pub kind : BlockKind
  pub texts : List (List ℕ)
  pub numbers : List ℕ
  pub set : blocks_in (get_or groups field.ifd_num.0 empty_group) kind ≡ Some texts
  pub names : (field ≡ field_of Tiff (offsets_tag kind) field.ifd_num.0 (Long numbers))
      ⊎ (field ≡ field_of Tiff (lengths_tag kind) field.ifd_num.0 (Long numbers))

-- an image has no other fields
abbrev pub HasPushedAndBlocks : List Group → Type 0
HasPushedAndBlocks groups =
    All (λ field. IsPushed groups field ⊎ NamesBlocks groups field) (flat groups)

-- the field is one of a list, an undefined value with another offset
pub record IsMoved (fields : List Field) (field : Field) : Type 0 where
  pub from : Field
  pub offset : ℕ
  pub given : Contains fields from
  pub moved : field ≡ record from { value = moved_to offset from.value }

-- the image of pushed fields has no others
abbrev pub HasPushedAlone : List Field → Type 0
HasPushedAlone fields = All (IsMoved fields) (flat (pushed_all fields []))

-- what fields push into a directory, as it is written in their order: an old offset of an undefined
-- value says nothing
abbrev pub slots_into : ℕ → Context → List Field → List Slot
slots_into ifd context fields = map known (entries_into ifd context fields)

-- each directory of the image holds what was pushed into it, in tag order, equal tags in push order
abbrev pub HoldsInTagOrder : List Field → Type 0
HoldsInTagOrder fields =
    (ifd : ℕ) (context : Context)
    → slots_into ifd context (flat (pushed_all fields [])) ≡ in_tag_order (slots_into ifd context fields)
