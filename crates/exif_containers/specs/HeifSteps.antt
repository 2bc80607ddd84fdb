-- What the steps of the HEIF reader do to the bytes of a file.
use Rattle.std.specs.Prelude.{◌≡◌, ℕ, List, [], ◌++◌, length, drop, nat_lt, if◌then◌else◌, Option, Some, None, IfSome, Result, Ok, Err}
use Rattle.exif_types.specs.Refusals.{Refusal, ◌>>=◌}
use Rattle.exif_isobmff.specs.HeifRefusals.{data_too_large}
use Rattle.exif_isobmff.specs.ItemLocations.{ItemExtents, extent_front, item_bytes}
use Rattle.exif_isobmff.specs.Heif.{after_header}
use Rattle.exif_base.specs.Told.{WhereTold}

-- bytes that were left are now behind those that were read before
abbrev pub GoesOn : Option (List ℕ) → Option (List ℕ) → List ℕ → List ℕ → Type 0
GoesOn left after old new = WhereTold left after (λ xs ys. new ++ ys ≡ old ++ xs)

-- the bytes of an item of one extent, of those from its location on
abbrev pub one_part : ℕ → List ℕ → Result (List ℕ) Refusal
one_part len bytes = do
  part ← extent_front len bytes
  if nat_lt 65535 (length part) then Err data_too_large else Ok part

-- an offset of a file is at `start` of the bytes that are kept, or the file ends in front of it
abbrev pub OffsetIsReached : ℕ → Option ℕ → Option (List ℕ) → Option (List ℕ) → List ℕ → List ℕ
    → Type 0
OffsetIsReached offset (Some start) left after old new =
    WhereTold left after (λ xs ys. drop start new ++ ys ≡ drop offset (old ++ xs))
OffsetIsReached offset None left after old new = IfSome left (λ xs. drop offset (old ++ xs) ≡ [])

-- the Exif data of the item at a location
abbrev pub payload_at : List ℕ → Option (List ℕ) → ItemExtents → Result (List ℕ) Refusal
payload_at file idat offset = item_bytes file idat offset >>= after_header
