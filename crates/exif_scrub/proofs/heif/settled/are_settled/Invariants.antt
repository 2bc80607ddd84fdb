use Rattle.std.proofs.Common.{◌≡◌, drop}
use Rattle.std.specs.List.{list_all}
use Rattle.exif_scrub.specs.HeifScrubbing.{is_settled}
use Rattle.exif_scrub.proofs.heif.settled.are_settled.Given as goal

-- those that are left decide
abbrev pub invariant-loop-span : goal.invariant-loop-span
invariant-loop-span l =
    list_all (is_settled l.judged l.file) (drop l.span-index l.spans)
    ≡ list_all (is_settled l.judged l.file) l.spans
