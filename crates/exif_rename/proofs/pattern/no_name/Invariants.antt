use Rattle.std.proofs.Common.{◌≡◌, ◌≤◌, ◌-◌, drop, take, []}
use Rattle.exif_rename.specs.Patterns.{no_name}
use Rattle.exif_rename.proofs.pattern.no_name.Given as goal

abbrev pub invariant-loop-at : goal.invariant-loop-at
invariant-loop-at l = record {
  before : l.start ≤ l.at;
  so_far : no_name 0 [] l.all ≡ no_name l.start (take (l.at - l.start) (drop l.start l.all)) (drop l.at l.all);
}
