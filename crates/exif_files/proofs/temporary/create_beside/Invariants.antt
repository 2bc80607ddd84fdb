use Rattle.std.proofs.Common.{◌≡◌}
use Rattle.exif_files.proofs.temporary.create_beside.Given as goal

abbrev pub invariant-loop-attempt : goal.invariant-loop-attempt
invariant-loop-attempt g l = record {
  same : g.F.FileSystem.states l.files ≡ g.F.FileSystem.states l.initial.files;
  calm : g.F.FileSystem.failures l.files ≡ g.F.FileSystem.failures l.initial.files;
}
