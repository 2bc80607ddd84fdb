-- What holds of JPEG XL files that are written again.
use Rattle.std.specs.Prelude.{◌≡◌, ◌⊎◌, ⊤, ℕ, zero, suc, List, [], ◌∷◌, length, take, drop, true, Option, None, Some, Result, Ok, Err}
use Rattle.exif_types.specs.Refusals.{Refusal}
use Rattle.exif_inventory.specs.JxlPieces.{box_piece, is_jxl}
use Rattle.exif_inventory.specs.declared.piece.Piece.{Piece}
use Rattle.exif_segments.specs.declared.remove.Remove.{Remove}
use Rattle.exif_segments.specs.declared.remove.Remove.TheVariants.{Metadata}
use Rattle.exif_parts.specs.Jxl.{box_stays, exif_box, jxl_rewritten}
use Rattle.exif_parts.specs.Written.{Written}

-- the bytes of a file that was written again
abbrev pub bytes_of : Result Written Refusal → Result (List ℕ) Refusal
bytes_of (Ok new) = Ok new.bytes
bytes_of (Err refusal) = Err refusal

-- a new file that is so written again becomes itself; it no longer has the box that was cut off
abbrev pub JxlIsStable : Remove → Option (List ℕ) → List ℕ → Written → Type 0
JxlIsStable remove put file new =
    jxl_rewritten remove put file ≡ Ok new
    → bytes_of (jxl_rewritten remove put new.bytes) ≡ Ok new.bytes

-- the bytes are the new box, if there is one
abbrev pub IsNewBox : Option (List ℕ) → List ℕ → Type 0
IsNewBox None bytes = ⊥
IsNewBox (Some payload) bytes = bytes ≡ exif_box payload

-- a box that stays where all metadata go, or the new one
abbrev pub IsBareBox : Option (List ℕ) → Piece → List ℕ → Type 0
IsBareBox put piece bytes =
    (box_stays Metadata piece (take piece.len bytes) ≡ true)
    ⊎ IsNewBox put (take piece.len bytes)

-- bytes have only such boxes: over at most n of them
unfoldable pub AreBareBoxes : ℕ → Option (List ℕ) → List ℕ → Type 0
AreBareBoxes n put [] = ⊤
AreBareBoxes zero put (b ∷ bytes) = ⊤
AreBareBoxes (suc n) put (b ∷ bytes) =
    let piece = box_piece (b ∷ bytes) in
    IsBareBox put piece (b ∷ bytes) × AreBareBoxes n put (drop piece.len (b ∷ bytes))

-- a file behind its first box
abbrev pub HasOnlyBareBoxes : Option (List ℕ) → List ℕ → Type 0
HasOnlyBareBoxes put file =
    (is_jxl file ≡ true) × AreBareBoxes (length file) put (drop 12 file)

-- a new file without metadata has nothing else
abbrev pub JxlLeavesNoMetadata : Option (List ℕ) → List ℕ → Written → Type 0
JxlLeavesNoMetadata put file new =
    jxl_rewritten Metadata put file ≡ Ok new → HasOnlyBareBoxes put new.bytes
