-- Texts of versions (Exif 2.32, sections 4.6.5 to 4.6.7).
use Rattle.std.specs.Prelude.{ℕ, ◌/◌, ◌%◌, ◌==◌, ◌&&◌, if◌then◌else◌, List, ◌++◌, ◌∷◌, codes, Option, Some, None, length}
use Rattle.std.specs.Fmt.{decimal}
use Rattle.exif_text.specs.Contents.{Plain, Bytes, Undefined}
use Rattle.exif_text.specs.Plain.{plain_text, zero_filled}
use Rattle.exif_text.specs.Digits.{are_two_at, two_at}

-- the numbers of the first two and of the last two of four digits
abbrev pub version_in : Plain → Option (ℕ × ℕ)
version_in (Undefined bytes) =
    if length bytes == 4 && (are_two_at bytes 0 && are_two_at bytes 2)
    then Some (two_at bytes 0, two_at bytes 2) else None
version_in v = None

-- the first number, a point, and the second as it is to be shown
abbrev pub version_text : (ℕ → List ℕ) → Option (ℕ × ℕ) → List ℕ → List ℕ
version_text shown None otherwise = otherwise
version_text shown (Some version) otherwise = decimal version.0 ++ (codes "." ++ shown version.1)

-- in two digits, but one where the second is 0
abbrev pub shortened : ℕ → List ℕ
shortened n = if n % 10 == 0 then decimal (n / 10) else zero_filled 2 (decimal n)

-- the version of Exif or Flashpix
abbrev pub exif_version_text : Plain → List ℕ
exif_version_text v = version_text shortened (version_in v) (plain_text v)

-- the version of interoperability, in two digits
abbrev pub interop_version_text : Plain → List ℕ
interop_version_text v = version_text (λ n. zero_filled 2 (decimal n)) (version_in v) (plain_text v)

-- the first four numbers with points between them
abbrev pub gps_version_text : Plain → List ℕ
gps_version_text (Bytes (a ∷ b ∷ c ∷ d ∷ rest)) =
    decimal a ++ (codes "."
    ++ (decimal b ++ (codes "." ++ (decimal c ++ (codes "." ++ decimal d)))))
gps_version_text v = plain_text v
