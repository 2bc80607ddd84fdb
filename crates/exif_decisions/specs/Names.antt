-- Names that are listed, each ended by a zero byte, as `find -print0` writes them.
use Rattle.std.specs.Prelude.{ℕ, ◌==◌, List, [], ◌∷◌, if◌then◌else◌, length}
use Rattle.std.specs.List.{flat_map, slice_split}
use Rattle.exif_decisions.specs.Escaping.{readable}

-- what is between two zero bytes, as text; nothing where no byte is
abbrev pub listed_name : List ℕ → List (List ℕ)
listed_name part = if length part == 0 then [] else readable part ∷ []

-- the names that bytes list, in their order
abbrev pub names_listed : List ℕ → List (List ℕ)
names_listed listing = flat_map listed_name (slice_split (λ byte. byte == 0) listing)
