-- Worked examples: a field is erased where reading looks at no byte as two things, and refused
-- where another field has the same bytes.
use Rattle.std.specs.Prelude.{ℕ, ◌≡◌, refl, true, false, List, [], ◌∷◌, Ok, Err}
use Rattle.exif_table.specs.declared.context.Context.TheVariants.{Tiff}
use Rattle.exif_tiff.specs.Apart.{looks_apart}
use Rattle.exif_tiff.specs.Trace.{ordered_trace, trace}
use Rattle.exif_edit_base.specs.Locations.{located}
use Rattle.exif_edit_base.specs.Causes.{shared}
use Rattle.exif_edit_base.specs.Readings.{reading}
use Rattle.exif_edit.specs.Examples.{sharing}
use Rattle.exif_edit.specs.Removing.{field_answer, field_patches, named_removals}

-- a width, and a description of 7 bytes behind the directory
abbrev described : List ℕ
described =
    77 ∷ 77 ∷ 0 ∷ 42 ∷ 0 ∷ 0 ∷ 0 ∷ 8
    ∷ 0 ∷ 2
    ∷ 1 ∷ 0 ∷ 0 ∷ 3 ∷ 0 ∷ 0 ∷ 0 ∷ 1 ∷ 0 ∷ 100 ∷ 0 ∷ 0
    ∷ 1 ∷ 14 ∷ 0 ∷ 2 ∷ 0 ∷ 0 ∷ 0 ∷ 7 ∷ 0 ∷ 0 ∷ 0 ∷ 38
    ∷ 0 ∷ 0 ∷ 0 ∷ 0
    ∷ 83 ∷ 97 ∷ 109 ∷ 112 ∷ 108 ∷ 101 ∷ 0 ∷ []

once : looks_apart described ≡ true
once = refl

-- the width is left alone: its entry is where it was, and zeros where the description was
erased : field_answer described (record { 0 = Tiff; 1 = 0x10e }) (record { 0 = 0 })
    ≡ Ok (77 ∷ 77 ∷ 0 ∷ 42 ∷ 0 ∷ 0 ∷ 0 ∷ 8
    ∷ 0 ∷ 1
    ∷ 1 ∷ 0 ∷ 0 ∷ 3 ∷ 0 ∷ 0 ∷ 0 ∷ 1 ∷ 0 ∷ 100 ∷ 0 ∷ 0
    ∷ 0 ∷ 0 ∷ 0 ∷ 0
    ∷ 0 ∷ 0 ∷ 0 ∷ 0 ∷ 0 ∷ 0 ∷ 0 ∷ 0 ∷ 0 ∷ 0 ∷ 0 ∷ 0
    ∷ 0 ∷ 0 ∷ 0 ∷ 0 ∷ 0 ∷ 0 ∷ 0 ∷ [])
unfolding field_patches named_removals reading located trace ordered_trace
erased = refl

-- a description and a maker's name that share one text
twice : looks_apart sharing ≡ false
twice = refl

refused : field_answer sharing (record { 0 = Tiff; 1 = 0x10f }) (record { 0 = 0 }) ≡ Err shared
unfolding field_patches named_removals reading located trace ordered_trace
refused = refl
