-- Numbers of a file, and bytes of it that stay.
use Rattle.std.specs.Prelude.{◌≡◌, ℕ, ◌+◌, Bool, List, ◌++◌, length, take, drop, nat_le, ◌&&◌, Result, Ok, Err, if◌then◌else◌}
use Rattle.std.specs.Str.{bytes_eq}
use Rattle.exif_base.specs.Bytes.{Reading, number_at}
use Rattle.exif_blanks.specs.Steps.{bared}
use Rattle.exif_blanks.specs.declared.steps.Place.TheVariants.{Start}
use Rattle.exif_scrub.specs.declared.tiff.fault.Fault.{Fault}
use Rattle.exif_scrub.specs.declared.tiff.fault.Fault.TheVariants.{Broken, SharedBytes}
use Rattle.exif_scrub.specs.declared.tiff.pass.Handling.{Handling}
use Rattle.exif_scrub.specs.declared.tiff.pass.Pass.TheVariants.{Keep, Pictures, Tags}

-- a step, and then the next, unless it is refused
infixl 10 ◌>>=◌
abbrev pub ◌>>=◌ : {A B : Type 0} → Result A Fault → (A → Result B Fault) → Result B Fault
(Ok x) >>= f = f x
(Err e) >>= f = Err e

-- whether so many bytes from an offset on are in a list
abbrev pub is_within : List ℕ → ℕ → ℕ → Bool
is_within bytes at len = nat_le (at + len) (length bytes)

-- the number in so many bytes at an offset, if they are in the file
abbrev pub number_in : Reading → ℕ → List ℕ → ℕ → Result ℕ Fault
number_in number width bytes at =
    if is_within bytes at width then Ok (number_at number width bytes at) else Err Broken

-- the new file with so many bytes of the old one, from an offset to another one
abbrev pub kept_bytes : List ℕ → ℕ → ℕ → ℕ → List ℕ → Result (List ℕ) Fault
kept_bytes old from len to new =
    if is_within old from len && is_within new to len
    then Ok (take to new ++ (take len (drop from old) ++ drop (to + len) new)) else Err Broken

-- bytes without the metadata of the JPEG stream that they may be, if the picture is stored in these
abbrev pub bared_if : Bool → List ℕ → List ℕ
bared_if is_stream bytes = if is_stream then bared Start bytes else bytes

-- the new file with so many bytes of the old one, where they were, without the metadata of the JPEG
-- stream that they are, if the picture is stored in these
abbrev pub stretch_kept : Bool → List ℕ → ℕ → ℕ → List ℕ → Result (List ℕ) Fault
stretch_kept is_stream old at len new =
    if is_within old at len && is_within new at len
    then Ok (take at new ++ (bared_if is_stream (take len (drop at old)) ++ drop (at + len) new))
    else Err Broken

-- whether bytes are what stays of a stretch
abbrev pub is_stretch : Bool → List ℕ → List ℕ → Bool
is_stretch is_stream old new = bytes_eq (bared_if is_stream old) new

-- a stretch with metadata is refused
abbrev pub stretch_tested : Bool → List ℕ → ℕ → ℕ → Result Unit Fault
stretch_tested is_stream old at len =
    if is_within old at len
    then (if is_stretch is_stream (take len (drop at old)) (take len (drop at old)) then Ok tt
    else Err SharedBytes) else Err Broken

-- a new file without what stays of a stretch, where it was, is refused
abbrev pub stretch_compared : Bool → List ℕ → ℕ → ℕ → List ℕ → Result Unit Fault
stretch_compared is_stream old at len new =
    if is_within old at len && is_within new at len
    then (if is_stretch is_stream (take len (drop at old)) (take len (drop at new)) then Ok tt
    else Err SharedBytes) else Err Broken

-- the new file where a walk comes to a stretch
abbrev pub stretch_visited : Handling → List ℕ → ℕ → ℕ → List ℕ → Result (List ℕ) Fault
stretch_visited how old at len new = elim how.pass [
  | Keep keeps_orientation ↦ stretch_kept how.is_stream old at len new
  | Pictures ↦ stretch_compared how.is_stream old at len new >>= λ u. Ok new
  | Tags keeps_orientation ↦ stretch_tested how.is_stream old at len >>= λ u. Ok new
]

-- a call made the new file so, or was refused so
abbrev pub Puts : {A : Type 0} → Result A Fault → List ℕ → Result (List ℕ) Fault → Type 0
Puts (Ok x) new made = made ≡ Ok new
Puts (Err e) new made = made ≡ Err e
