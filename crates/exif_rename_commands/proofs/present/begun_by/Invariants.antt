use Rattle.std.proofs.Common.{◌≡◌}
use Rattle.exif_rename_commands.proofs.present.begun_by.Given as goal

-- nothing was changed
abbrev pub invariant-loop-wanted : goal.invariant-loop-wanted
invariant-loop-wanted g l = g.F.FileSystem.states l.files ≡ g.F.FileSystem.states l.fn.files
