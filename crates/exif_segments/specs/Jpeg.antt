-- A JPEG stream as a list of units, and what it answers (ITU-T T.81, B.1.1; Exif 2.32, 4.7.2).
use Rattle.std.specs.Prelude.{ℕ, zero, suc, ◌+◌, ◌*◌, max, List, [], ◌∷◌, length, take, drop, codes, nat_lt, nat_le, Bool, false, ◌&&◌, ◌||◌, ◌==◌, if◌then◌else◌, Option, None, Some, unwrap_or}
use Rattle.std.specs.Str.{bytes_eq}
use Rattle.std.specs.Option.{option_map}
use Rattle.exif_types.specs.Refusals.{Refusal, invalid_format, not_found}
use Rattle.exif_segments.specs.Answer.{Answer, found, refused}

-- the bytes end before an answer
abbrev pub broken_jpeg : Refusal
broken_jpeg = invalid_format (codes "Broken JPEG file")

-- the stream does not begin ff d8
abbrev pub not_jpeg : Refusal
not_jpeg = invalid_format (codes "Not a JPEG file")

-- an image begins inside the image
abbrev pub unexpected_soi : Refusal
unexpected_soi = invalid_format (codes "Unexpected SOI")

-- a segment is shorter than its own length
abbrev pub invalid_length : Refusal
invalid_length = invalid_format (codes "Invalid segment length")

-- the image ends, and held no Exif data
abbrev pub no_exif_in_jpeg : Refusal
no_exif_in_jpeg = not_found (codes "JPEG")

-- all refusals of a JPEG stream
abbrev pub jpeg_refusals : List Refusal
jpeg_refusals = broken_jpeg ∷ not_jpeg ∷ unexpected_soi ∷ invalid_length ∷ no_exif_in_jpeg ∷ []

-- a unit from its code on: the code, the body behind it, and all that follows
pub record JpegUnit : Type 0 where
  pub code : ℕ
  pub body : List ℕ
  pub rest : List ℕ

-- the first two bytes as a number, the highest first
abbrev pub two_bytes : List ℕ → ℕ
two_bytes (high ∷ low ∷ bytes) = 256 * high + low
two_bytes bytes = 0

-- all from the first ff on
abbrev pub from_mark : List ℕ → List ℕ
from_mark [] = []
from_mark (b ∷ bytes) = if b == 255 then b ∷ bytes else from_mark bytes

-- all but the ffs at the front
abbrev pub after_marks : List ℕ → List ℕ
after_marks [] = []
after_marks (b ∷ bytes) = if b == 255 then after_marks bytes else b ∷ bytes

-- all from the code of the first unit on: what is no ff is skipped, and then ffs
abbrev pub code_onwards : List ℕ → List ℕ
code_onwards bytes = after_marks (from_mark bytes)

-- codes with no body: 00, 01, d0 to d9
abbrev pub stands_alone : ℕ → Bool
stands_alone code = nat_le code 1 || (nat_le 208 code && nat_le code 217)

-- a body begins with two bytes that spell its length, themselves included
abbrev pub body_len : ℕ → List ℕ → ℕ
body_len code bytes = if stands_alone code then 0 else max 2 (two_bytes bytes)

-- the unit with a body of this length, where it is whole
abbrev pub unit_with_body : ℕ → List ℕ → ℕ → Option JpegUnit
unit_with_body code bytes len =
    if nat_le len (length bytes)
    then Some (record { code = code; body = take len bytes; rest = drop len bytes }) else None

-- the unit at the front of these bytes, which begin with its code, where it is whole
abbrev pub unit_from_code : List ℕ → Option JpegUnit
unit_from_code [] = None
unit_from_code (code ∷ bytes) = unit_with_body code bytes (body_len code bytes)

-- the first unit of these bytes, where it is whole
abbrev pub first_unit : List ℕ → Option JpegUnit
first_unit bytes = unit_from_code (code_onwards bytes)

-- whether bytes begin with the identifier of Exif
abbrev pub begins_exif : List ℕ → Bool
begins_exif bytes = bytes_eq (take 6 bytes) (codes "Exif\0\0")

-- what follows the identifier of Exif, where the bytes begin with that
abbrev pub exif_payload : List ℕ → Option (List ℕ)
exif_payload bytes = if begins_exif bytes then Some (drop 6 bytes) else None

-- what a unit answers, where it does
abbrev pub unit_answer : JpegUnit → Option Answer
unit_answer u =
    if u.code == 216 then Some (refused unexpected_soi) else
    if u.code == 217 then Some (refused no_exif_in_jpeg) else
    if stands_alone u.code then None else
    if nat_lt (two_bytes u.body) 2 then Some (refused invalid_length) else
    if u.code == 225
    then option_map (λ payload. found payload u.rest) (exif_payload (drop 2 u.body)) else None

-- the unit, if there is one, and the units of what follows it
abbrev pub with_units : Option JpegUnit → (List ℕ → List JpegUnit) → List JpegUnit
with_units None units_after = []
with_units (Some u) units_after = u ∷ units_after u.rest

-- the units from the front on, as far as they are whole, and at most n
abbrev pub units : ℕ → List ℕ → List JpegUnit
units zero bytes = []
units (suc n) bytes = with_units (first_unit bytes) (units n)

-- the answer of the first unit that answers
abbrev pub first_answer : List JpegUnit → Answer
first_answer [] = refused broken_jpeg
first_answer (u ∷ us) = unwrap_or (unit_answer u) (first_answer us)

-- a unit has a byte, so there are no more units than bytes
abbrev pub units_of : List ℕ → List JpegUnit
units_of bytes = units (length bytes) bytes

-- the answer of the units from here on
abbrev pub answer_from : List ℕ → Answer
answer_from bytes = first_answer (units_of bytes)

-- the stream begins ff d8, and then come units
abbrev pub jpeg_answer : List ℕ → Answer
jpeg_answer [] = refused broken_jpeg
jpeg_answer (a ∷ []) = refused broken_jpeg
jpeg_answer (a ∷ b ∷ bytes) =
    if (a == 255) && (b == 216) then answer_from bytes else refused not_jpeg

-- whether bytes begin as a JPEG stream does
abbrev pub begins_jpeg : List ℕ → Bool
begins_jpeg (a ∷ b ∷ bytes) = (a == 255) && (b == 216)
begins_jpeg bytes = false

-- the answer of bytes that are behind the ffs of a unit, its code first
abbrev pub answer_at_code : ℕ → List ℕ → Answer
answer_at_code code bytes = first_answer (with_units (unit_from_code (code ∷ bytes)) units_of)
