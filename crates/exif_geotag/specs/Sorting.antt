-- Points in the order of their times.
use Rattle.std.specs.Prelude.{nat_le, if◌then◌else◌, List, [], ◌∷◌}
use Rattle.std.specs.List.Sorted.{IsNonDecreasingBy}
use Rattle.exif_geotag.specs.declared.point.Point.{Point}

-- the points come one after the other, none before an earlier one
abbrev pub AreInOrder : List Point → Type 0
AreInOrder points = IsNonDecreasingBy (λ (point : Point). point.time) points

-- a point before the first one that is no earlier
abbrev pub inserted : Point → List Point → List Point
inserted point [] = point ∷ []
inserted point (next ∷ points) =
    if nat_le point.time next.time then point ∷ next ∷ points else next ∷ inserted point points

-- the points in the order of their times, those of one time in the order in which they came
abbrev pub in_order : List Point → List Point
in_order [] = []
in_order (point ∷ points) = inserted point (in_order points)
