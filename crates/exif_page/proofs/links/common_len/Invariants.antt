use Rattle.std.proofs.Common.{◌≡◌, ◌≤◌, drop, length}
use Rattle.exif_page.specs.Links.{common}
use Rattle.exif_page.proofs.links.common_len.Given as goal

-- what is shared so far is part of what is shared
abbrev pub invariant-loop-at : goal.invariant-loop-at
invariant-loop-at l = record {
  in_range : l.last ≤ l.at;
  in_path : l.last ≤ length l.path;
  found : common l.last l.at (drop l.at l.folder) (drop l.at l.path) ≡ common 0 0 l.folder l.path;
}
