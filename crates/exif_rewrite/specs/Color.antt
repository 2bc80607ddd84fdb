-- A JPEG, WebP or PNG file without its colour profile (ICC.1:2022, B.4; WebP Container
-- Specification, "Extended File Format", "Color Profile"; PNG Specification, 11.3.2.3).
use Rattle.std.specs.Prelude.{ℕ, ◌-◌, ◌&&◌, List, [], ◌∷◌, ◌++◌, length, take, drop, codes, slice_index, slice_set, nat_lt, Bool, true, false, Option, if◌then◌else◌}
use Rattle.std.specs.Option.{option_map}
use Rattle.std.specs.Str.{bytes_eq}
use Rattle.byteorder.specs.Endian.{little_bytes, little_number}
use Rattle.exif_inventory.specs.declared.kind.Kind.{Kind}
use Rattle.exif_inventory.specs.declared.kind.Kind.TheVariants as kind
use Rattle.exif_inventory.specs.declared.part.Part.{Part}
use Rattle.exif_inventory.specs.Walks.{inventory}
use Rattle.exif_parts.specs.Webp.{without}

-- whether a part is of a colour profile
abbrev pub is_profile : Kind → Bool
is_profile kind.IccProfile = true
is_profile k = false

-- the bytes of a part, if it stays
abbrev pub if_stays : Part → List ℕ → List ℕ
if_stays part bytes = if is_profile part.kind then [] else bytes

-- these bytes, and then those of the parts that stay
abbrev pub with_staying : List Part → List ℕ → List ℕ → List ℕ
with_staying [] bytes made = made
with_staying (part ∷ parts) bytes made =
    with_staying parts (drop part.len bytes) (made ++ if_stays part (take part.len bytes))

-- a WebP file whose header counts so many bytes less
unfoldable pub shrunk : ℕ → List ℕ → List ℕ
shrunk by file =
    if nat_lt (length file) 8 then file
    else take 4 file ++ (little_bytes 4 (little_number 4 (drop 4 file) - by) ++ drop 8 file)

-- and whose extended header has no flag of a profile
unfoldable pub unflagged : List ℕ → List ℕ
unflagged file =
    if nat_lt 20 (length file) && bytes_eq (take 4 (drop 12 file)) (codes "VP8X")
    then slice_set file 20 (without 32 (slice_index file 20)) else file

-- a file from which parts were taken out, with its header settled
abbrev pub settled : List ℕ → List ℕ → List ℕ
settled old new =
    if bytes_eq (take 4 old) (codes "RIFF")
    then unflagged (shrunk (length old - length new) new) else new

-- a file without the colour profiles among its parts
abbrev pub without_profiles : List ℕ → List Part → List ℕ
without_profiles file parts = settled file (with_staying parts file [])

-- a JPEG, WebP or PNG file without its colour profiles
abbrev pub colorless : List ℕ → Option (List ℕ)
colorless file = option_map (without_profiles file) (inventory file)
