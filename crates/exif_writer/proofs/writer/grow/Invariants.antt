use Rattle.std.proofs.Common.{◌≡◌, ◌++◌, ◌-◌, replicate}
use Rattle.exif_layout.specs.Groups.{empty_group}
use Rattle.exif_writer.proofs.writer.grow.Given as goal

abbrev pub invariant-loop-made : goal.invariant-loop-made
invariant-loop-made l = l.ifds.items ≡ l.initial.ifds.items ++ replicate (l._made - l.before) empty_group
