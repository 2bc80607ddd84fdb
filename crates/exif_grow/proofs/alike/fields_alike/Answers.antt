use Rattle.std.proofs.Common.{List, length, ap, arith}
use Rattle.std.specs.Vec.Iter.{into_iter_items}
use Rattle.exif_types.specs.declared.field.Field.{Field}
use Rattle.exif_grow.proofs.AlikeSteps.{alike_step}
use Rattle.exif_grow.proofs.alike.fields_alike.Goals as goal

pub loop-field-preserved : goal.loop-field-preserved
loop-field-preserved c =
    let s = c.in-Some.ensures.steps.0 in
    let l = ap (λ (xs : List Field). length xs) s in
    let p = c.loop-field.invariant.paired in
    record {
      paired = omega arith;
      rest = rw c.in_ok-push.ensures.items
          (alike_step c.args.tag c.args.ifd_num c.args.value.now c.in-Some.field c.in_ok-field.field
          (into_iter_items c.next.new.self) c.args.entries.now c.loop-field.i c.at.result
          c.loop-field.alike.items _ c.at.ensures c.in_ok-field.ensures
          (rw s at c.loop-field.invariant.rest));
    }
