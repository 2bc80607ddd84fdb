-- Whether the stretches where reading looks are apart.
use Rattle.std.specs.Prelude.{ℕ, ◌+◌, ◌&&◌, nat_lt, not, Bool, true, List, [], ◌∷◌}
use Rattle.std.specs.List.{list_any}
use Rattle.exif_tiff.specs.Footprint.{Stretch, footprint}

-- whether two stretches have a byte in common
abbrev pub overlap : Stretch → Stretch → Bool
overlap s t = nat_lt t.offset (s.offset + s.len) && nat_lt s.offset (t.offset + t.len)

-- whether no two of some stretches have
abbrev pub are_apart : List Stretch → Bool
are_apart [] = true
are_apart (s ∷ ts) = not (list_any (overlap s) ts) && are_apart ts

-- whether reading looks at no byte of the data as two things
abbrev pub looks_apart : List ℕ → Bool
looks_apart bytes = are_apart (footprint bytes)
