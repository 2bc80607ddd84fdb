use Rattle.std.proofs.Common.{◌≡◌, ℕ, List, map}
use Rattle.std.specs.String.{string_bytes}
use Rattle.exif_decisions.specs.Escaping.{readable}
use Rattle.mexaldor.proofs.line.words.Given as goal

-- the words so far are those that were given so far
abbrev pub invariant-words : goal.invariant-words
invariant-words l =
    (given : List (List ℕ)) × (map string_bytes l.words.items ≡ map readable given)
