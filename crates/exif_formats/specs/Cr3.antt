-- A CR3 file, and what it answers. It is made of boxes (ISO/IEC 14496-12:2015, 4.2, 4.3). There is
-- no public standard of what Canon keeps in them: `moov` holds a `uuid` of Canon's, and in that
-- `CMT1`, `CMT2` and `CMT4` are TIFF data each.
use Rattle.std.specs.Prelude.{ℕ, zero, suc, ◌-◌, ◌^◌, ◌==◌, ◌&&◌, ◌||◌, Bool, nat_lt, if◌then◌else◌, List, [], ◌∷◌, length, take, drop, codes, Option, Some, None, Result, Ok, Err}
use Rattle.std.specs.Option.{option_and_then, option_map}
use Rattle.std.specs.Str.{bytes_eq}
use Rattle.byteorder.specs.Endian.{big_number}
use Rattle.exif_types.specs.Refusals.{Refusal, invalid_format, not_found, Front, ◌>>=◌, or_refuse}
use Rattle.exif_isobmff.specs.Boxes.{Part, box_at}

-- a box is cut off, or its size is under that of its header or over that of what is around it
abbrev pub broken_cr3 : Refusal
broken_cr3 = invalid_format (codes "Broken CR3 file")

-- the file does not begin as a CR3 file does
abbrev pub not_cr3 : Refusal
not_cr3 = invalid_format (codes "Not a CR3 file")

-- a box on the way to the Exif data is absent
abbrev pub no_exif_in_cr3 : Refusal
no_exif_in_cr3 = not_found (codes "CR3")

-- all refusals of a CR3 file
abbrev pub cr3_refusals : List Refusal
cr3_refusals = broken_cr3 ∷ not_cr3 ∷ no_exif_in_cr3 ∷ []

-- ---- boxes by their types

-- a box: its four-character type, its payload, and all that follows it
pub record Box : Type 0 where
  pub name : List ℕ
  pub payload : List ℕ
  pub rest : List ℕ

-- the box that was read at the front of these bytes; each fault is the same refusal
abbrev pub box_read : List ℕ → Front Part → Result Box Refusal
box_read bytes (Ok found) =
    Ok (record { name = take 4 (drop 4 bytes); payload = found.0.body; rest = found.1 })
box_read bytes (Err r) = Err broken_cr3

-- the box at the front of these bytes, which is whole
abbrev pub first_box : List ℕ → Result Box Refusal
first_box bytes = box_read bytes (box_at bytes)

-- what a box of this type holds: `uuid` is followed by a type of 16 bytes, others by none
abbrev pub held_by : List ℕ → List ℕ → Box → Option (List ℕ)
held_by name usertype b =
    if bytes_eq b.name name && bytes_eq (take (length usertype) b.payload) usertype
    then Some (drop (length usertype) b.payload) else None

-- what a box holds, or what is found behind it
abbrev pub held_or : Option (List ℕ) → (List ℕ → Result (Option (List ℕ)) Refusal) → List ℕ
    → Result (Option (List ℕ)) Refusal
held_or (Some payload) next rest = Ok (Some payload)
held_or None next rest = next rest

-- what is found in a box or behind it, unless it is refused
abbrev pub follow : (Box → Option (List ℕ)) → Result Box Refusal
    → (List ℕ → Result (Option (List ℕ)) Refusal) → Result (Option (List ℕ)) Refusal
follow held (Ok b) next = held_or (held b) next b.rest
follow held (Err r) next = Err r

-- what the first box of a type holds, among at most n boxes; none where there is no such box
abbrev pub first_within : (Box → Option (List ℕ)) → ℕ → List ℕ
    → Result (Option (List ℕ)) Refusal
first_within held zero bytes = Ok None
first_within held (suc n) [] = Ok None
first_within held (suc n) (b ∷ bytes) =
    follow held (first_box (b ∷ bytes)) (first_within held n)

-- a box has bytes, so there are no more boxes than bytes
abbrev pub first_held : List ℕ → List ℕ → List ℕ → Result (Option (List ℕ)) Refusal
first_held name usertype bytes = first_within (held_by name usertype) (length bytes) bytes

-- what was found, where there is no answer without it
abbrev pub required : Result (Option (List ℕ)) Refusal → Result (List ℕ) Refusal
required found = found >>= λ payload. or_refuse payload no_exif_in_cr3

-- ---- the file

-- whether bytes begin as a CR3 file does: a box `ftyp` with the major brand `crx `
abbrev pub begins_cr3 : List ℕ → Bool
begins_cr3 bytes =
    bytes_eq (take 4 (drop 4 bytes)) (codes "ftyp")
    && bytes_eq (take 4 (drop 8 bytes)) (codes "crx ")

-- what follows a first box of this size, which has its brand within; 0 runs to the end
abbrev pub behind_brand : ℕ → List ℕ → Result (List ℕ) Refusal
behind_brand size file =
    if size == 0 then Ok [] else
    if nat_lt size 12 || nat_lt (length file) size then Err broken_cr3 else Ok (drop size file)

-- the boxes behind the first one of a file
abbrev pub boxes_of : List ℕ → Result (List ℕ) Refusal
boxes_of file =
    if nat_lt (length file) 12 then Err broken_cr3 else
    if begins_cr3 file then behind_brand (big_number 4 file) file else Err not_cr3

-- what the first box of a type holds among the first 2^64 - 1 boxes
unfoldable pub held_in : List ℕ → List ℕ → List ℕ → Result (Option (List ℕ)) Refusal
held_in name usertype bytes = first_within (held_by name usertype) (2 ^ 64 - 1) bytes

-- the same of a file
abbrev pub held_of : List ℕ → List ℕ → List ℕ → Result (Option (List ℕ)) Refusal
held_of name usertype file = boxes_of file >>= held_in name usertype

-- the first bytes of that, at most so many
abbrev pub held_front : List ℕ → List ℕ → ℕ → List ℕ → Result (Option (List ℕ)) Refusal
held_front name usertype most file =
    held_of name usertype file >>= λ found. Ok (option_map (take most) found)

-- the payload of the first `moov` of a file
abbrev pub movie_of : List ℕ → Result (List ℕ) Refusal
movie_of file = required (held_of (codes "moov") [] file)

-- Canon's type of a `uuid`: 85c0b687-820f-11e0-8111-f4ce462b6a48
abbrev pub canon_type : List ℕ
canon_type =
    0x85 ∷ 0xc0 ∷ 0xb6 ∷ 0x87 ∷ 0x82 ∷ 0x0f ∷ 0x11 ∷ 0xe0 ∷ 0x81 ∷ 0x11 ∷ 0xf4 ∷ 0xce ∷ 0x46 ∷ 0x2b
    ∷ 0x6a ∷ 0x48 ∷ []

-- TIFF data of their own: the primary directory, the Exif directory and the GPS directory
pub record Cr3Parts : Type 0 where
  pub primary : List ℕ
  pub exif : Option (List ℕ)
  pub gps : Option (List ℕ)

-- what Canon's `uuid` holds
abbrev pub canon_parts : List ℕ → Result Cr3Parts Refusal
canon_parts canon = do
  primary ← required (first_held (codes "CMT1") [] canon)
  exif ← first_held (codes "CMT2") [] canon
  gps ← first_held (codes "CMT4") [] canon
  Ok (record { primary = primary; exif = exif; gps = gps })

-- what the payload of `moov` holds
abbrev pub movie_parts : List ℕ → Result Cr3Parts Refusal
movie_parts movie = required (first_held (codes "uuid") canon_type movie) >>= canon_parts

-- so many bytes, if they are there
abbrev pub whole_front : ℕ → List ℕ → Option (List ℕ)
whole_front len bytes = if nat_lt (length bytes) len then None else Some (take len bytes)

-- the JPEG data in the payload of `THMB`: a version and flags (4 bytes), the width and the height
-- (2 each), the length of the data (4), 4 bytes more, and the data
abbrev pub thumbnail_in : List ℕ → Option (List ℕ)
thumbnail_in payload =
    if nat_lt (length payload) 16 then None else
    whole_front (big_number 4 (drop 8 payload)) (drop 16 payload)

-- the same of Canon's `uuid`
abbrev pub canon_thumbnail : List ℕ → Result (Option (List ℕ)) Refusal
canon_thumbnail canon =
    first_held (codes "THMB") [] canon >>= λ found. Ok (option_and_then thumbnail_in found)

-- the same of the payload of `moov`
abbrev pub movie_thumbnail : List ℕ → Result (Option (List ℕ)) Refusal
movie_thumbnail movie =
    required (first_held (codes "uuid") canon_type movie) >>= canon_thumbnail

-- the thumbnail of a file, if it has one
abbrev pub cr3_thumbnail : List ℕ → Result (Option (List ℕ)) Refusal
cr3_thumbnail file = movie_of file >>= movie_thumbnail

-- the answer of a file
abbrev pub cr3_answer : List ℕ → Result Cr3Parts Refusal
cr3_answer file = movie_of file >>= movie_parts
