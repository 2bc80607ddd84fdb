-- The entries of a directory, and their values (TIFF 6.0, section 2, "Image File Directory").
use Rattle.std.specs.Prelude.{◌≡◌, ℕ, zero, suc, ◌+◌, ◌*◌, nat_le, not, ◌==◌, ◌&&◌, ◌||◌, Bool, true, false, List, Option, Some, None, Result, Ok, Err, if◌then◌else◌}
use Rattle.exif_base.specs.Bytes.{Reading}
use Rattle.exif_scrub.specs.Keeping.{◌>>=◌, kept_bytes, number_in, stretch_kept, stretch_tested}
use Rattle.exif_scrub.specs.Tags.{describes_picture, in_range, is_raw_compression, is_raw_photometric, size_of_type}
use Rattle.exif_scrub.specs.declared.tiff.fault.Fault.{Fault}
use Rattle.exif_scrub.specs.declared.tiff.fault.Fault.TheVariants.{NotSupported, Raw, SharedBytes}

-- the type of the entry at an offset
abbrev pub kind_of : Reading → List ℕ → ℕ → Result ℕ Fault
kind_of number old e = number_in number 2 old (e + 2)

-- how many items it has
abbrev pub count_of : Reading → List ℕ → ℕ → Result ℕ Fault
count_of number old e = number_in number 4 old (e + 4)

-- the offset of values with so many bytes: within the entry, or where it says
abbrev pub values_by : Reading → List ℕ → ℕ → ℕ → Result ℕ Fault
values_by number old e len = if nat_le len 4 then Ok (e + 8) else number_in number 4 old (e + 8)

-- the offset of the values of an entry
abbrev pub values_at : Reading → List ℕ → ℕ → Result ℕ Fault
values_at number old e = do
  kind ← kind_of number old e
  count ← count_of number old e
  values_by number old e (size_of_type kind * count)

-- the number of this index among values of a type
abbrev pub item_in : Reading → List ℕ → ℕ → ℕ → ℕ → Result ℕ Fault
item_in number old kind at index =
    if kind == 3 then number_in number 2 old (at + 2 * index) else
    if (kind == 4) || (kind == 13) then number_in number 4 old (at + 4 * index)
    else Err NotSupported

-- the same of an entry
abbrev pub item_at : Reading → List ℕ → ℕ → ℕ → Result ℕ Fault
item_at number old e index = do
  kind ← kind_of number old e
  at ← values_at number old e
  item_in number old kind at index

-- what is raw is refused
abbrev pub unless_raw : Bool → Result Unit Fault
unless_raw is_raw = if is_raw then Err Raw else Ok tt

-- a tag, unless a test of the first value says that the file is raw
abbrev pub tag_unless : Reading → List ℕ → ℕ → ℕ → (ℕ → Bool) → Result ℕ Fault
tag_unless number old e tag test =
    item_at number old e 0 >>= λ value. unless_raw (test value) >>= λ u. Ok tag

-- a tag, unless it shows a raw file or what is not supported
abbrev pub tag_checked : Reading → List ℕ → Bool → ℕ → ℕ → Result ℕ Fault
tag_checked number old is_nested e tag =
    if tag == 259 then tag_unless number old e tag is_raw_compression else
    if tag == 262 then tag_unless number old e tag is_raw_photometric else
    if (tag == 330) && is_nested then Err NotSupported else
    if in_range 519 521 tag then Err NotSupported else
    if tag == 50706 then Err Raw else Ok tag

-- the same of an entry
abbrev pub checked_tag : Reading → List ℕ → Bool → ℕ → Result ℕ Fault
checked_tag number old is_nested e =
    number_in number 2 old e >>= tag_checked number old is_nested e

-- the new file with a value of so many bytes that is outside of its entry; that of JPEG tables is a
-- stream
abbrev pub value_put : Reading → List ℕ → ℕ → ℕ → ℕ → List ℕ → Result (List ℕ) Fault
value_put number old e tag len new =
    if nat_le len 4 then Ok new
    else number_in number 4 old (e + 8) >>= λ at. stretch_kept (tag == 347) old at len new

-- the same of an entry
abbrev pub value_kept : Reading → List ℕ → ℕ → ℕ → List ℕ → Result (List ℕ) Fault
value_kept number old e tag new = do
  kind ← kind_of number old e
  count ← count_of number old e
  value_put number old e tag (size_of_type kind * count) new

-- the new file with an entry and its value, and that it stays
abbrev pub entry_put : Reading → List ℕ → ℕ → ℕ → ℕ → List ℕ → Result (Bool × List ℕ) Fault
entry_put number old e tag to new =
    kept_bytes old e 12 to new
    >>= λ with. value_kept number old e tag with >>= λ made. Ok (true, made)

-- the same where the entry describes the picture
abbrev pub entry_kept : Reading → List ℕ → Bool → Bool → ℕ → ℕ → List ℕ
    → Result (Bool × List ℕ) Fault
entry_kept number old keeps_orientation is_nested e to new = do
  tag ← checked_tag number old is_nested e
  kind ← kind_of number old e
  if not (describes_picture keeps_orientation tag) || (size_of_type kind == 0)
      then Ok (false, new) else entry_put number old e tag to new

-- JPEG tables of so many bytes with metadata are refused
abbrev pub tables_by : Reading → List ℕ → ℕ → ℕ → Result Unit Fault
tables_by number old e len =
    if nat_le len 4 then Ok tt
    else number_in number 4 old (e + 8) >>= λ at. stretch_tested true old at len

-- the same of an entry of JPEG tables
abbrev pub tables_tested : Reading → List ℕ → ℕ → Result Unit Fault
tables_tested number old e = do
  kind ← kind_of number old e
  count ← count_of number old e
  tables_by number old e (size_of_type kind * count)

-- an entry that does not describe the picture is refused, and so is one of JPEG tables with
-- metadata
abbrev pub entry_tested : Reading → List ℕ → Bool → ℕ → Result Unit Fault
entry_tested number old keeps_orientation e =
    number_in number 2 old e
    >>= λ tag. if not (describes_picture keeps_orientation tag) then Err SharedBytes else
    if tag == 347 then tables_tested number old e else Ok tt

-- a call answered this and made the new file so, or was refused so
abbrev pub Goes : {A : Type 0} → Result A Fault → List ℕ → Result (A × List ℕ) Fault → Type 0
Goes (Ok x) new made = made ≡ Ok (x, new)
Goes (Err e) new made = made ≡ Err e

-- the offset of the first of so many entries that has a tag
abbrev pub entry_named : Reading → List ℕ → ℕ → ℕ → ℕ → Result (Option ℕ) Fault
entry_named number old tag zero e = Ok None
entry_named number old tag (suc left) e =
    number_in number 2 old e
    >>= λ t. if t == tag then Ok (Some e) else entry_named number old tag left (e + 12)
