-- What holds of packets whose locations were erased.
use Rattle.std.specs.Prelude.{◌≡◌, ℕ, false, List, length, Ok}
use Rattle.std.specs.List.{AllByRecursion}
use Rattle.exif_locations.specs.XmpErasing.{erased, found}
use Rattle.exif_locations.specs.XmpPieces.{Piece, names_location, pieces, spaced}
use Rattle.exif_locations.specs.Spaced.{IsSpaced}

-- a packet whose locations were erased is as long, and each of its bytes is as it was or a space
abbrev pub BytesStay : Type 0
BytesStay = (packet out : List ℕ) → erased packet ≡ Ok out → (length out ≡ length packet) × IsSpaced packet out

-- erased again it is itself
abbrev pub TwiceIsOnce : Type 0
TwiceIsOnce = (packet out : List ℕ) → erased packet ≡ Ok out → erased out ≡ Ok out

-- its tokens are those of the packet, but for spaces instead of those that name locations and of
-- what is within them
abbrev pub TokensStay : Type 0
TokensStay =
    (packet out : List ℕ) → erased packet ≡ Ok out
    → (ps : List Piece) × (pieces packet ≡ Ok ps) × (pieces out ≡ Ok (spaced 0 ps))

-- none of its tags and attributes has the name of a location
abbrev pub NoLocationIsLeft : Type 0
NoLocationIsLeft =
    (packet out : List ℕ) → erased packet ≡ Ok out
    → (ps : List Piece) × (pieces out ≡ Ok ps) × AllByRecursion (λ p. names_location p ≡ false) ps

-- a packet in which no property names a location stays as it is
abbrev pub OthersStay : Type 0
OthersStay = (packet : List ℕ) → found packet ≡ Ok false → erased packet ≡ Ok packet
