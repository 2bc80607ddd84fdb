use Rattle.std.proofs.Common.{◌≡◌, ◌+◌, ◌++◌, drop, length}
use Rattle.std.specs.Vec.Iter.{into_iter_items}
use Rattle.exif_grow.specs.Alike.{beside, fields_alike}
use Rattle.exif_grow.proofs.alike.fields_alike.Given as goal

-- the fields that are left become what all of them do
abbrev pub invariant-loop-field : goal.invariant-loop-field
invariant-loop-field l = record {
  paired : l.i + length (into_iter_items l.field-iterator) ≡ length l.entries;
  rest : l.alike.items
      ++ fields_alike l.tag l.ifd_num l.value
      (beside (into_iter_items l.field-iterator) (drop l.i l.entries))
      ≡ fields_alike l.tag l.ifd_num l.value (beside l.fn.fields.items l.entries);
}
