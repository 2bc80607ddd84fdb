-- The calls on a writer, and in closed form the groups that they make.
use Rattle.std.specs.Prelude.{ℕ, suc, ◌==◌, ◌&&◌, ◌≡◌, not, max, Bool, List, [], ◌∷◌, map, Option, Some, None, if◌then◌else◌}
use Rattle.std.specs.List.{filter, filter_map, last_or, range_with_len}
use Rattle.exif_types.specs.Lookup.{context_eq}
use Rattle.exif_table.specs.declared.context.Context.{Context}
use Rattle.exif_table.specs.declared.context.Context.TheVariants.{Tiff, Exif, Gps, Interop}
use Rattle.exif_types.specs.declared.field.Field.{Field}
use Rattle.exif_layout.specs.Groups.{Group, Entry, entry_of, is_ignored, pushed, strips_set, tiles_set, jpeg_set}
use Rattle.exif_layout.specs.Rewriting.{pushed_all}

-- a call that a writer accepted
pub data Call : Type 0 where
  Push : Field → Call
  SetStrips : List (List ℕ) → ℕ → Call
  SetTiles : List (List ℕ) → ℕ → Call
  SetJpeg : List ℕ → ℕ → Call

-- what one call makes of the groups
abbrev pub after_call : Call → List Group → List Group
after_call (Push field) groups = pushed field groups
after_call (SetStrips strips ifd) groups = strips_set strips ifd groups
after_call (SetTiles tiles ifd) groups = tiles_set tiles ifd groups
after_call (SetJpeg jpeg ifd) groups = jpeg_set jpeg ifd groups

-- what calls make of them, one after the other
abbrev pub after_calls : List Call → List Group → List Group
after_calls [] groups = groups
after_calls (call ∷ calls) groups = after_calls calls (after_call call groups)

-- the groups that calls make in a new writer
abbrev pub made : List Call → List Group
made calls = after_calls calls []

-- the field that a call pushes
abbrev pub field_pushed : Call → Option Field
field_pushed (Push field) = Some field
field_pushed (SetStrips strips ifd) = None
field_pushed (SetTiles tiles ifd) = None
field_pushed (SetJpeg jpeg ifd) = None

-- whether a field is an entry of the directory with a number and a context
abbrev pub goes_into : ℕ → Context → Field → Bool
goes_into ifd context field =
    not (is_ignored field.tag.0 field.tag.1)
    && ((field.ifd_num.0 == ifd) && context_eq field.tag.0 context)

-- the entries of that directory: what is pushed into it, in push order
abbrev pub entries_into : ℕ → Context → List Field → List Entry
entries_into ifd context fields = map entry_of (filter (goes_into ifd context) fields)

-- those that calls push
abbrev pub entries_in : List Call → ℕ → Context → List Entry
entries_in calls ifd context = entries_into ifd context (filter_map field_pushed calls)

-- the strips that a call sets in the directory with a number, if it sets some there
abbrev pub strips_in : ℕ → Call → Option (List (List ℕ))
strips_in ifd (Push field) = None
strips_in ifd (SetStrips strips number) = if number == ifd then Some strips else None
strips_in ifd (SetTiles tiles number) = None
strips_in ifd (SetJpeg jpeg number) = None

-- the tiles that a call sets in the directory with a number, if it sets some there
abbrev pub tiles_in : ℕ → Call → Option (List (List ℕ))
tiles_in ifd (Push field) = None
tiles_in ifd (SetStrips strips number) = None
tiles_in ifd (SetTiles tiles number) = if number == ifd then Some tiles else None
tiles_in ifd (SetJpeg jpeg number) = None

-- the JPEG that a call sets in the directory with a number, if it sets one there
abbrev pub jpeg_in : ℕ → Call → Option (List ℕ)
jpeg_in ifd (Push field) = None
jpeg_in ifd (SetStrips strips number) = None
jpeg_in ifd (SetTiles tiles number) = None
jpeg_in ifd (SetJpeg jpeg number) = if number == ifd then Some jpeg else None

-- one more than the number that a call uses; an ignored push uses none
abbrev pub directories_of : Call → ℕ
directories_of (Push field) = if is_ignored field.tag.0 field.tag.1 then 0 else suc field.ifd_num.0
directories_of (SetStrips strips ifd) = suc ifd
directories_of (SetTiles tiles ifd) = suc ifd
directories_of (SetJpeg jpeg ifd) = suc ifd

-- one more than the greatest number used
abbrev pub directories : List Call → ℕ
directories [] = 0
directories (call ∷ calls) = max (directories_of call) (directories calls)

-- the group with a number: its entries, and the blocks of each kind that were set last
abbrev pub group_made : List Call → ℕ → Group
group_made calls ifd = record {
  tiff = entries_in calls ifd Tiff;
  exif = entries_in calls ifd Exif;
  gps = entries_in calls ifd Gps;
  interop = entries_in calls ifd Interop;
  strips = last_or None (filter_map (strips_in ifd) calls);
  tiles = last_or None (filter_map (tiles_in ifd) calls);
  jpeg = last_or None (filter_map (jpeg_in ifd) calls);
}

-- the calls make a group for each number below that of the directories
abbrev pub IsMadeOf : List Call → Type 0
IsMadeOf calls = made calls ≡ map (group_made calls) (range_with_len 0 (directories calls))

-- pushes alone make what they make as calls
abbrev pub PushesAreCalls : List Field → List Group → Type 0
PushesAreCalls fields groups = after_calls (map Push fields) groups ≡ pushed_all fields groups
