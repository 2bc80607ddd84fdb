use Rattle.std.proofs.Common.{◌≡◌, ◌≤◌, drop}
use Rattle.exif_page.specs.Paths.{file_name, name_behind}
use Rattle.exif_page.proofs.paths.file_name.Given as goal

-- the name so far is behind the last slash of what was read
abbrev pub invariant-loop-at : goal.invariant-loop-at
invariant-loop-at l = record {
  in_path : l.start ≤ l.at;
  found : name_behind (drop l.start l.path) (drop l.at l.path) ≡ file_name l.path;
}
