use Rattle.std.proofs.Common.{◌≡◌, map, take}
use Rattle.std.specs.String.{string_bytes}
use Rattle.mexaldor.specs.Line.{spelled_word}
use Rattle.mexaldor.proofs.line.spelled.Given as goal

-- the words so far, spelled
abbrev pub invariant-loop-word : goal.invariant-loop-word
invariant-loop-word l =
    map string_bytes l.all.items ≡ map spelled_word (map string_bytes (take l.word-index l.words))
