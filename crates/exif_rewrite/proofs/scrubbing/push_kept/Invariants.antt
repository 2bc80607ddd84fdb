use Rattle.std.proofs.Common.{◌≡◌}
use Rattle.exif_layout.specs.Rewriting.{pushed_all}
use Rattle.exif_layout.specs.Scrubbing.{kept}
use Rattle.exif_rewrite.proofs.scrubbing.push_kept.Given as goal

-- what is left of the fields takes the writer where all of them do
abbrev pub invariant-loop-field : goal.invariant-loop-field
invariant-loop-field l = pushed_all (kept l.field-iterator) l.writer ≡ pushed_all (kept l.exif.fields) l.initial.writer
