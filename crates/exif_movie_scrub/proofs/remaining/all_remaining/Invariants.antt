use Rattle.std.proofs.Common.{◌≡◌, ◌++◌, drop}
use Rattle.exif_movie_scrub.specs.Remainders.{all_remaining}
use Rattle.exif_movie_scrub.proofs.remaining.all_remaining.Given as goal

-- those so far, with those of the parts that are left, are all
abbrev pub invariant-loop-part : goal.invariant-loop-part
invariant-loop-part l =
    l.found.items ++ all_remaining l.request (drop l.part-index l.parts)
    ≡ all_remaining l.request l.parts
