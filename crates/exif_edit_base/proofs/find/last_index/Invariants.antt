use Rattle.std.proofs.Common.{◌≡◌, ◌≤◌, false, All, drop, length}
use Rattle.exif_types.specs.Lookup.{is_named}
use Rattle.exif_edit_base.proofs.find.last_index.Given as goal

abbrev pub invariant-loop-i : goal.invariant-loop-i
invariant-loop-i l = record {
  within : l.i ≤ length l.fields;
  none : All (λ f. is_named l.tag l.ifd_num f ≡ false) (drop l.i l.fields);
}

abbrev pub decreases-loop-i : goal.decreases-loop-i
decreases-loop-i l = l.i
