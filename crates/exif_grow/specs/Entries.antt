-- The entry of an item in `iloc`, for an item that is moved (ISO/IEC 14496-12:2015, 8.11.3).
use Rattle.std.specs.Prelude.{ℕ, Bool, ◌^◌, ◌==◌, ◌&&◌, ◌||◌, nat_lt, if◌then◌else◌, List, [], ◌∷◌, ◌++◌, replicate, Result, Ok, Err}
use Rattle.std.specs.Int.{to_be_bytes, w32, w64}
use Rattle.exif_isobmff.specs.declared.entries.Entry.{Entry}
use Rattle.exif_isobmff.specs.declared.locations.Sizes.{Sizes}
use Rattle.exif_edit_base.specs.Causes.{Cause, ◌>>=◌}
use Rattle.exif_grow.specs.Refusals.{narrow}

-- whether there is a field of so many bytes, and it has space for a number
abbrev pub has_space : ℕ → ℕ → Bool
has_space width number = (width == 8) || ((width == 4) && nat_lt number (2 ^ 32))

-- a number of so many bytes, if it has space in them
abbrev pub field_text : ℕ → ℕ → Result (List ℕ) Cause
field_text width number =
    if width == 8 then Ok (to_be_bytes w64 number) else
    (if (width == 4) && nat_lt number (2 ^ 32) then Ok (to_be_bytes w32 number) else
    (if (width == 0) && (number == 0) then Ok [] else Err narrow))

-- the base of an item that is at an offset: the offset itself, if its field has space for it
abbrev pub base_for : Sizes → ℕ → ℕ
base_for s from = if has_space s.base from then from else 0

-- the offset of its extent behind the base
abbrev pub offset_for : Sizes → ℕ → ℕ
offset_for s from = if has_space s.base from then 0 else from

-- how many bytes an item's number takes
abbrev pub number_len : ℕ → ℕ
number_len version = if version == 2 then 4 else 2

-- how many bytes take how an item is put together, which version 0 lacks, and where its data are
abbrev pub method_len : ℕ → ℕ
method_len version = if version == 0 then 2 else 4

-- what an entry says behind the item's number of an item of one extent, whose base, offset and
-- length have these bytes: it is put together from the file (construction method 0), its data are
-- in the file (data reference 0), and it has one extent
abbrev pub one_extent : Entry → List ℕ → List ℕ → List ℕ → List ℕ
one_extent e base offset size =
    replicate (method_len e.version) 0
    ++ (base ++ ((0 ∷ 1 ∷ []) ++ (replicate e.sizes.index 0 ++ (offset ++ size))))

-- the bytes of an entry behind the item's number, for an item at an offset
unfoldable pub moved_entry : Entry → ℕ → ℕ → Result (List ℕ) Cause
moved_entry e from len = do
  base ← field_text e.sizes.base (base_for e.sizes from)
  offset ← field_text e.sizes.offset (offset_for e.sizes from)
  size ← field_text e.sizes.len len
  Ok (one_extent e base offset size)
