-- Texts with spaces around them.
use Rattle.std.specs.Prelude.{ℕ, ◌-◌, ◌/◌, List, ◌++◌, length, replicate}
use Rattle.std.specs.declared.fmt.Alignment.{Alignment}
use Rattle.std.specs.declared.fmt.Alignment.TheVariants.{Left, Right, Center}

-- how many padding characters come before the text: of the centre the smaller half
abbrev pub places_before : Alignment → ℕ → ℕ
places_before Left missing = 0
places_before Center missing = missing / 2
places_before Right missing = missing

-- the text in at least width characters
abbrev pub pad : List ℕ → ℕ → Alignment → List ℕ
pad text width align =
    let missing = width - length text in
    let before = places_before align missing in
    replicate before 32 ++ (text ++ replicate (missing - before) 32)
