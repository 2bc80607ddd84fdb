use Rattle.std.proofs.Common.{◌≡◌, ◌||◌}
use Rattle.std.specs.List.{list_any}
use Rattle.exif_layout.specs.Rewriting.{pushed_all}
use Rattle.exif_rewrite.specs.ScrubbedExif.{is_wanted, wanted}
use Rattle.exif_rewrite.proofs.scrubbed.push_wanted.Given as goal

-- what is left of the fields takes the writer where all of them do, and there is a wanted field
-- where there was one or there is one among those that are left
abbrev pub invariant-loop-field : goal.invariant-loop-field
invariant-loop-field l =
    (pushed_all (wanted l.keep l.field-iterator) l.writer ≡ pushed_all (wanted l.keep l.exif.fields) l.initial.writer)
    × ((l.some || list_any (is_wanted l.keep) l.field-iterator) ≡ list_any (is_wanted l.keep) l.exif.fields)
