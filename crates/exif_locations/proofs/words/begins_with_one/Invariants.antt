use Rattle.std.proofs.Common.{◌≡◌, drop, map}
use Rattle.exif_locations.specs.Words.{begins_with_one}
use Rattle.exif_locations.proofs.words.begins_with_one.Given as goal

-- none of the words so far is such
abbrev pub invariant-loop-word : goal.invariant-loop-word
invariant-loop-word l =
    begins_with_one (map (λ word. word.now) l.words) l.bytes
    ≡ begins_with_one (map (λ word. word.now) (drop l.word-index l.words)) l.bytes
