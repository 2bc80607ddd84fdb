use Rattle.std.proofs.Common.{◌≡◌, ◌≤◌, length, drop}
use Rattle.exif_edit.specs.Removing.{directories_with}
use Rattle.exif_edit.proofs.remove.directories_with.Given as goal

-- the fields behind the index are looked through
abbrev pub invariant-loop-i : goal.invariant-loop-i
invariant-loop-i l = record {
  within : l.i ≤ length l.fields;
  noted : l.offsets.items ≡ directories_with l.tag l.ifd_num (drop l.i l.fields)
      (drop l.i l.entries);
}

abbrev pub decreases-loop-i : goal.decreases-loop-i
decreases-loop-i l = l.i
