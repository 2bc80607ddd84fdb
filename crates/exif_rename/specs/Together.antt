-- The order in which files get new names.
use Rattle.std.specs.Prelude.{ℕ, ◌+◌, ◌==◌, List, [], ◌∷◌, ◌++◌, Bool, true, false, not}
use Rattle.exif_rename.specs.Grouped.{Named, grouped}
use Rattle.exif_rename.specs.declared.together.Place.{Place}

-- the place of a file
abbrev pub place : ℕ → ℕ → Place
place leader index = record { leader = leader; index = index }

-- whether a file is a sidecar, or whether it is none
abbrev pub is_kind : Bool → Bool → Bool
is_kind true is_sidecar = is_sidecar
is_kind false is_sidecar = not is_sidecar

-- a place before others, if it is one of them
abbrev pub with_place : Bool → Place → List Place → List Place
with_place true p ps = p ∷ ps
with_place false p ps = ps

-- the places of the files that are sidecars, or of those that are none, whose indices begin with one
abbrev pub places_of : Bool → ℕ → List Named → List ℕ → List Place
places_of sidecars index [] leaders = []
places_of sidecars index (file ∷ files) [] = []
places_of sidecars index (file ∷ files) (leader ∷ leaders) =
    with_place (is_kind sidecars file.1) (place leader index)
    (places_of sidecars (index + 1) files leaders)

-- those of all files, each with the index of the first file of its stem: sidecars first
abbrev pub places : List Named → List Place
places files = places_of true 0 files (grouped files) ++ places_of false 0 files (grouped files)
