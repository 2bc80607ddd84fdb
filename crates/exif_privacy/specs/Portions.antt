-- The portions of extended XMP packets (XMP Specification, Part 3, 1.1.3.1).
use Rattle.std.specs.Prelude.{ℕ, ◌+◌, ◌-◌, ◌==◌, ◌&&◌, min, List, [], ◌∷◌, length, take, drop, nat_le, nat_lt, Bool, true, false, if◌then◌else◌}
use Rattle.std.specs.List.{flat_map, sum_by}
use Rattle.std.specs.Str.{bytes_eq}
use Rattle.exif_inventory.specs.Resources.{number_of}
use Rattle.exif_inventory.specs.declared.kind.Kind.{Kind}
use Rattle.exif_inventory.specs.declared.kind.Kind.TheVariants as kind
use Rattle.exif_inventory.specs.declared.part.Part.{Part}
use Rattle.exif_privacy.specs.Data.{data_of, with_data}

-- whether a part is of an extended XMP packet
abbrev pub is_extended : Kind → Bool
is_extended kind.ExtendedXmp = true
is_extended _ = false

-- whether a part has a portion, which is not empty, behind the GUID of its packet (32 bytes), the
-- length of the packet, and the offset of the portion in it (4 bytes each)
abbrev pub has_portion : Part → Bool
has_portion part = is_extended part.kind && nat_lt 40 part.data_len

-- the portion of a part alone
abbrev pub portion : Part → Part
portion part = record {
  kind = part.kind;
  picture = part.picture;
  offset = part.offset;
  len = part.len;
  data_offset = part.data_offset + min 40 part.data_len;
  data_len = part.data_len - 40;
}

-- its bytes
abbrev pub portion_of : Part → List ℕ → List ℕ
portion_of part file = data_of (portion part) file

-- the length of a packet, by the data of a part
abbrev pub full_len : List ℕ → ℕ
full_len bytes = number_of bytes 32

-- whether data are of the same packet as others, go on with it at this offset, and end within it
abbrev pub is_next : List ℕ → ℕ → List ℕ → Bool
is_next first at bytes =
    bytes_eq (take 36 bytes) (take 36 first) && (number_of bytes 36 == at)
    && nat_le (length bytes - 40) (full_len first - at)

-- whether a part goes on so with the packet that another part of the same picture begins
abbrev pub goes_on : List ℕ → Part → ℕ → Part → Bool
goes_on file first at part =
    has_portion part && (part.picture == first.picture)
    && is_next (data_of first file) at (data_of part file)

-- how many parts are the packet that one of them begins, behind n parts with so many bytes of it:
-- none, if it is not whole
unfoldable pub run_len : List ℕ → Part → ℕ → ℕ → List Part → ℕ
run_len file first n at [] = if at == full_len (data_of first file) then n else 0
run_len file first n at (part ∷ parts) =
    if at == full_len (data_of first file) then n else
    if goes_on file first at part
    then run_len file first (n + 1) (at + (part.data_len - 40)) parts else 0

-- how many parts are the packet that the first one begins: none, if it begins none
abbrev pub joined_len : List ℕ → List Part → ℕ
joined_len file [] = 0
joined_len file (part ∷ parts) =
    if has_portion part then run_len file part 0 0 (part ∷ parts) else 0

-- the packet whose portions are in these parts
abbrev pub joined : List Part → List ℕ → List ℕ
joined parts file = flat_map (λ part. portion_of part file) parts

-- how many bytes that has
abbrev pub portions_len : List Part → ℕ
portions_len parts = sum_by (λ part. part.data_len - 40) parts

-- a file with a packet in its portions: each has as many bytes as before
abbrev pub put_back : List Part → List ℕ → List ℕ → List ℕ
put_back [] packet file = file
put_back (part ∷ parts) packet file =
    let n = length (portion_of part file) in
    put_back parts (drop n packet) (with_data (portion part) (take n packet) file)
