-- What is reported of a run over a catalogue.
use Rattle.std.specs.Prelude.{ℕ, Bool, if◌then◌else◌, List, [], ◌++◌, codes, Option, None, Some}
use Rattle.std.specs.Fmt.{decimal}
use Rattle.exif_catalog.specs.declared.hashes.Move.{Move}
use Rattle.exif_catalog.specs.declared.totals.Totals.{Totals}
use Rattle.exif_decisions.specs.Escaping.{escaped_text}

-- which moves are reported
abbrev pub reported_moves : Bool → List Move → List Move
reported_moves is_quiet moves = if is_quiet then [] else moves

abbrev pub move_text : List ℕ → List ℕ → List ℕ
move_text old new = codes "moved: " ++ (escaped_text old ++ (codes " -> " ++ escaped_text new))

-- how many rows were moved, which only hashes show
abbrev pub moved_text : ℕ → Bool → List ℕ
moved_text moved has_hashes =
    if has_hashes then codes ", " ++ (decimal moved ++ codes " moved") else []

-- what a run did with the rows
abbrev pub totals_text : Totals → Bool → List ℕ
totals_text totals has_hashes =
    (decimal totals.added ++ (codes " added, " ++ (decimal totals.changed ++ (codes " changed, "
    ++ (decimal totals.unchanged ++ (codes " unchanged, " ++ (decimal totals.removed
    ++ (codes " removed, " ++ (decimal totals.restored ++ codes " restored")))))))))
    ++ moved_text totals.moved has_hashes

-- what is reported of the rows
abbrev pub reported_totals : Bool → Totals → Bool → Option (List ℕ)
reported_totals is_quiet totals has_hashes =
    if is_quiet then None else Some (totals_text totals has_hashes)
