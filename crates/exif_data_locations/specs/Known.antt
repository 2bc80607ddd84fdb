-- What is known of data already, so that they need not be read again.
use Rattle.std.specs.Prelude.{◌≡◌, ◌≤◌, ◌<◌, ◌^◌, ℕ, List, Option, IfSome, Ok, length}
use Rattle.exif_tiff.specs.declared.tiff.Parsed.{Parsed}
use Rattle.exif_edit_base.specs.Readings.{read_of, reading}
use Rattle.exif_edit_base.specs.Walked.{Finds}
use Rattle.exif_edit_base.specs.declared.walk.Located.{Located}

-- what is read of data, with its offsets
pub record IsLocated (bytes : List ℕ) (located : Located) : Type 0 where
  pub reads : reading bytes ≡ Ok (read_of located.parsed)
  pub offsets : Finds bytes located.walk
  pub space : 8 ≤ length bytes
  pub small : length bytes < 2 ^ 32

-- the same, if it is known
abbrev pub MayBeLocated : List ℕ → Option Located → Type 0
MayBeLocated bytes located = IfSome located (λ l. IsLocated bytes l)

-- what is read of data, if it is known
abbrev pub MayBeRead : List ℕ → Option Parsed → Type 0
MayBeRead bytes parsed = IfSome parsed (λ p. reading bytes ≡ Ok (read_of p))
