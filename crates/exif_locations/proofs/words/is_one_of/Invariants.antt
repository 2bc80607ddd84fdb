use Rattle.std.proofs.Common.{◌≡◌, drop, map}
use Rattle.exif_locations.specs.Words.{is_one_of}
use Rattle.exif_locations.proofs.words.is_one_of.Given as goal

-- none of the words so far is such
abbrev pub invariant-loop-word : goal.invariant-loop-word
invariant-loop-word l =
    is_one_of (map (λ word. word.now) l.words) l.bytes
    ≡ is_one_of (map (λ word. word.now) (drop l.word-index l.words)) l.bytes
