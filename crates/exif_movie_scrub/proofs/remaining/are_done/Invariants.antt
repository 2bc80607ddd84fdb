use Rattle.std.proofs.Common.{◌≡◌, drop}
use Rattle.std.specs.List.{list_all}
use Rattle.exif_movie_scrub.specs.Remainders.{is_done_part}
use Rattle.exif_movie_scrub.proofs.remaining.are_done.Given as goal

-- those that are left decide
abbrev pub invariant-loop-part : goal.invariant-loop-part
invariant-loop-part l =
    list_all (is_done_part l.request l.file) (drop l.part-index l.parts)
    ≡ list_all (is_done_part l.request l.file) l.parts
