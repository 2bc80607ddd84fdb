use Rattle.std.proofs.Common.{◌≡◌, ◌+◌, false, is_some, length}
use Rattle.exif_rename_commands.specs.Members.{looks_there}
use Rattle.exif_rename_commands.proofs.planned.leave_there.Given as goal

-- Each name that is planned has a path. Where no files are looked for, each stem so far is planned or
-- finished.
abbrev pub invariant-loop-stem : goal.invariant-loop-stem
invariant-loop-stem g l = record {
  paths : length l.planned.paths.items ≡ length l.planned.requests.items;
  all : looks_there l.renaming.copy (is_some l.renaming.into) ≡ false
      → length l.planned.requests.items + length l.planned.begun.items ≡ length l.yielded;
  waiting : l.session.pending.waiting ≡ l.initial.session.pending.waiting;
  beside : l.session.pending.counts.beside ≡ l.initial.session.pending.counts.beside;
}
