use Rattle.std.proofs.Common.{◌≡◌}
use Rattle.std.specs.BTreeSet.{contains_text}
use Rattle.std.specs.String.{string_bytes}
use Rattle.exif_files.specs.States.{Now}
use Rattle.exif_rename.specs.Planned.{free_in}
use Rattle.exif_rename.specs.Starts.{NoneOpenBelow}
use Rattle.exif_rename.proofs.starts.first_open.Given as goal

abbrev pub invariant-loop-number : goal.invariant-loop-number
invariant-loop-number g l = record {
  same : g.F.FileSystem.states l.files ≡ g.F.FileSystem.states l.initial.files;
  count : g.F.FileSystem.failures l.files ≡ g.F.FileSystem.failures l.initial.files;
  none : Now (g.F.FileSystem.states l.initial.files) (λ s.
      NoneOpenBelow (free_in s) (contains_text l.given) (string_bytes l.series.base) (string_bytes l.series.ending) l.from
      → NoneOpenBelow (free_in s) (contains_text l.given) (string_bytes l.series.base) (string_bytes l.series.ending) l.number);
}
