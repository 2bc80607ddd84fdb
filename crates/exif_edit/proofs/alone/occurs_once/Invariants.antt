use Rattle.std.proofs.Common.{◌≡◌, ◌≤◌, ◌==◌, length, take}
use Rattle.std.specs.List.{filter}
use Rattle.exif_tiff.specs.declared.offset.EntryOffset.{EntryOffset}
use Rattle.exif_edit.proofs.alone.occurs_once.Given as goal

-- this many were found so far
abbrev pub invariant-loop-offset : goal.invariant-loop-offset
invariant-loop-offset l = record {
  few : l.count ≤ l.offset-index;
  found : l.count
      ≡ length (filter (λ (p : EntryOffset). p.entry == l.entry) (take l.offset-index l.entries));
}
