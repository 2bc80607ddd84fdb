use Rattle.std.proofs.Common.{◌≡◌}
use Rattle.exif_catalog_commands.proofs.gathering.Gathered.next_picture.Given as goal

-- the session is the one that was given
abbrev pub invariant-files : goal.invariant-files
invariant-files g l = l.self.session.ghost_name ≡ l.initial.self.session.ghost_name
