-- JPEG streams as the standard writes them (ITU-T T.81, B.1.1; Exif 2.32, 4.7.2): trees, their
-- bytes, and what makes them valid.
use Rattle.std.specs.Prelude.{◌≡◌, ◌≢◌, ℕ, ◌+◌, ◌-◌, ◌*◌, ◌<◌, List, [], ◌∷◌, ◌++◌, length, replicate, codes, nat_lt, true, false, ◌==◌, if◌then◌else◌, Option, None, Some, Result, Ok, Err}
use Rattle.std.specs.List.{All, flat_map}
use Rattle.exif_types.specs.Refusals.{Refusal}
use Rattle.exif_segments.specs.Answer.{Answer, found, refused}
use Rattle.exif_segments.specs.Jpeg.{broken_jpeg, not_jpeg, unexpected_soi, invalid_length, no_exif_in_jpeg, stands_alone, jpeg_answer}

-- what a code brings: nothing; the two bytes of a length and what that counts besides them; or such
-- a length, the identifier of Exif and the Exif data
pub data Brought : Type 0 where
  nothing : Brought
  sized : ℕ → ℕ → List ℕ → Brought
  exif : ℕ → ℕ → List ℕ → Brought

-- `Exif` and two zeros
abbrev pub exif_id : List ℕ
exif_id = codes "Exif\0\0"

-- a unit: bytes that are no ff, an ff and so many more of them, a code, and what it brings
pub record UnitTree : Type 0 where
  pub passed : List ℕ
  pub fill : ℕ
  pub code : ℕ
  pub brought : Brought

-- the bytes behind a code
abbrev pub print_brought : Brought → List ℕ
print_brought nothing = []
print_brought (sized high low content) = high ∷ low ∷ content
print_brought (exif high low payload) = high ∷ low ∷ (exif_id ++ payload)

-- the bytes of a unit
abbrev pub print_unit : UnitTree → List ℕ
print_unit u = u.passed ++ (255 ∷ (replicate u.fill 255 ++ (u.code ∷ print_brought u.brought)))

-- the bytes do not begin with the identifier of Exif
abbrev pub HasNoId : List ℕ → Type 0
HasNoId content = (payload : List ℕ) → content ≡ exif_id ++ payload → ⊥

-- codes without a length bring nothing; a length counts its own two bytes; code e1 brings Exif data
-- if the identifier is there
abbrev pub IsBrought : ℕ → Brought → Type 0
IsBrought code nothing = stands_alone code ≡ true
IsBrought code (sized high low content) =
    (stands_alone code ≡ false) × (length content ≡ 256 * high + low - 2)
    × (code ≡ 225 → HasNoId content)
IsBrought code (exif high low payload) = (code ≡ 225) × (256 * high + low ≡ 8 + length payload)

-- the unit is valid: no ff is in what is skipped or is its code
pub record IsUnit (u : UnitTree) : Type 0 where
  pub passed : All (λ b. b ≢ 255) u.passed
  pub code : u.code ≢ 255
  pub brought : IsBrought u.code u.brought

-- what the bytes of a code say: the Exif data, a refusal or nothing
abbrev pub brought_says : ℕ → Brought → Option (Result (List ℕ) Refusal)
brought_says code nothing = None
brought_says code (sized high low content) =
    if nat_lt (256 * high + low) 2 then Some (Err invalid_length) else None
brought_says code (exif high low payload) = Some (Ok payload)

-- what a unit says
abbrev pub unit_says : UnitTree → Option (Result (List ℕ) Refusal)
unit_says u =
    if u.code == 216 then Some (Err unexpected_soi) else
    if u.code == 217 then Some (Err no_exif_in_jpeg) else brought_says u.code u.brought

-- a unit that says nothing
abbrev pub IsSilent : UnitTree → Type 0
IsSilent u = IsUnit u × (unit_says u ≡ None)

-- no unit is at the front of these bytes
abbrev pub HasNoUnit : List ℕ → Type 0
HasNoUnit bytes = (u : UnitTree) (rest : List ℕ) → IsUnit u → bytes ≡ print_unit u ++ rest → ⊥

-- what ends the silent units: one that says something, and then any bytes, or bytes that no unit
-- begins
pub data Ending : Type 0 where
  speaking : UnitTree → Result (List ℕ) Refusal → List ℕ → Ending
  cut : List ℕ → Ending

-- the bytes of what ends them
abbrev pub print_ending : Ending → List ℕ
print_ending (speaking u said rest) = print_unit u ++ rest
print_ending (cut bytes) = bytes

-- it is valid: the unit says so, or there is no unit
abbrev pub IsEnding : Ending → Type 0
IsEnding (speaking u said rest) = IsUnit u × (unit_says u ≡ Some said)
IsEnding (cut bytes) = HasNoUnit bytes

-- what was described, and all that follows
abbrev pub answer_said : List ℕ → Result (List ℕ) Refusal → Answer
answer_said rest (Ok payload) = found payload rest
answer_said rest (Err r) = refused r

-- the answer of what ends them
abbrev pub ending_answer : Ending → Answer
ending_answer (speaking u said rest) = answer_said rest said
ending_answer (cut bytes) = refused broken_jpeg

-- a stream: ff d8, silent units and what ends them; or fewer than two bytes, or two others
pub data Stream : Type 0 where
  short : List ℕ → Stream
  foreign : ℕ → ℕ → List ℕ → Stream
  units : List UnitTree → Ending → Stream

-- the bytes of a stream
abbrev pub print_stream : Stream → List ℕ
print_stream (short bytes) = bytes
print_stream (foreign a b rest) = a ∷ b ∷ rest
print_stream (units us end) = 255 ∷ 216 ∷ (flat_map print_unit us ++ print_ending end)

-- the tree is valid
abbrev pub IsStream : Stream → Type 0
IsStream (short bytes) = length bytes < 2
IsStream (foreign a b rest) = (a ≡ 255) × (b ≡ 216) → ⊥
IsStream (units us end) = All IsSilent us × IsEnding end

-- the answer of a stream
abbrev pub stream_answer : Stream → Answer
stream_answer (short bytes) = refused broken_jpeg
stream_answer (foreign a b rest) = refused not_jpeg
stream_answer (units us end) = ending_answer end

-- the bytes of a valid stream are answered as its tree says
abbrev pub StreamIsAnswered : Stream → Type 0
StreamIsAnswered s = IsStream s → jpeg_answer (print_stream s) ≡ stream_answer s

-- all bytes are those of a valid stream
abbrev pub IsAStream : List ℕ → Type 0
IsAStream bytes = (s : Stream) × IsStream s × (print_stream s ≡ bytes)
