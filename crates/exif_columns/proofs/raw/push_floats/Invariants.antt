use Rattle.std.proofs.Common.{◌≡◌, ◌++◌, ◌∷◌, take}
use Rattle.std.specs.List.{flat_map}
use Rattle.std.specs.String.{string_bytes}
use Rattle.exif_text.specs.Plain.{bits_text}
use Rattle.exif_columns.proofs.raw.push_floats.Given as goal

-- the items so far
abbrev pub invariant-loop-item : goal.invariant-loop-item
invariant-loop-item l =
    string_bytes l.text
    ≡ string_bytes l.initial.text ++ flat_map (λ y. 32 ∷ bits_text 8 y) (take l.item-index l.others)
