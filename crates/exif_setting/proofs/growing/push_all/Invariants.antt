use Rattle.std.proofs.Common.{◌≡◌, drop}
use Rattle.exif_layout.specs.Rewriting.{pushed_all}
use Rattle.exif_setting.proofs.growing.push_all.Given as goal

-- what is left of the fields takes the writer where all of them do
abbrev pub invariant-loop-field : goal.invariant-loop-field
invariant-loop-field l =
    pushed_all (drop l.field-index l.fields) l.writer ≡ pushed_all l.fields l.initial.writer
