-- What holds of data whose locations were erased.
use Rattle.std.specs.Prelude.{◌≡◌, ℕ, true, List, length, Ok}
use Rattle.exif_locations.specs.IptcDatasets.{blank_by, erased}
use Rattle.exif_locations.specs.Spaced.{IsSpaced}

-- they are as long, and each byte is as it was or a space
abbrev pub BytesStay : Type 0
BytesStay = (input out : List ℕ) → erased input ≡ Ok out → (length out ≡ length input) × IsSpaced input out

-- erased again they are themselves
abbrev pub TwiceIsOnce : Type 0
TwiceIsOnce = (input out : List ℕ) → erased input ≡ Ok out → erased out ≡ Ok out

-- the value of each dataset of a location is spaces
abbrev pub LocationsAreBlank : Type 0
LocationsAreBlank = (input out : List ℕ) → erased input ≡ Ok out → blank_by (length out) out ≡ Ok true
