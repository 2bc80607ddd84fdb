use Rattle.std.proofs.Common.{◌≡◌, []}
use Rattle.exif_layout.specs.Rewriting.{pushed_all}
use Rattle.exif_tests.proofs.examples.writing.written_again.Given as goal

-- what is left of the fields takes the writer where all of them do
abbrev pub invariant-loop-field : goal.invariant-loop-field
invariant-loop-field l = pushed_all l.field-iterator l.writer ≡ pushed_all l.exif.fields []
