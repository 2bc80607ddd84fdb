use Rattle.std.proofs.Common.{◌∙◌, sym, ap}
use Rattle.exif_layout.specs.Groups.{Group, with_entry, entry_of, changed}
use Rattle.exif_layout.specs.Ranged.{IsEntry}
use Rattle.exif_layout.specs.Views.{grown}
use Rattle.exif_writer.proofs.Growth.{changed_by, changed_ranged, entry_ranged, ranged_as, cut_back, on_ok, on_err}
use Rattle.exif_writer.proofs.writer.Writer.push_field.Goals as goal

pub invariant_of-self-then-is_err : goal.invariant_of-self-then-is_err
invariant_of-self-then-is_err c =
    ranged_as _ c.self.inside.ifds.items
    (c.truncate.ensures.items
    ∙ cut_back c.from-number.result c.len-before.result c.self.inside.ifds.items _ _ _ c.in_ok-grow.ensures.made c.index_mut.ensures.value
    (on_err c.push.result c.is_err.result _ c.is_err.ensures.value c.if-is_err.true c.push.ensures.kept) (c.len-before.ensures ∙ c.self.inside.ifds.ok.0))
    c.self.invariant

pub invariant_of-self-else-is_err : goal.invariant_of-self-else-is_err
invariant_of-self-else-is_err c =
    let entry : IsEntry c.args.field.now.tag.0 (entry_of c.args.field.now) = record {
      tag = c.show_field_fits.ensures.tag;
      value = c.show_field_fits.ensures.value;
      pushed = sym c.is_own.ensures ∙ c.if-is_own.false;
    } in
    let change : Group → Group = with_entry c.args.field.now.tag.0 (entry_of c.args.field.now) in
    ranged_as _ (changed c.args.field.now.ifd_num.0 change c.self.inside.ifds.items)
    (changed_by c.args.field.now.ifd_num.0 c.from-number.result change c.self.inside.ifds.items _ _ _
    c.from-number.ensures c.in_ok-grow.ensures.made c.index_mut.ensures.value
    (on_ok c.push.result c.is_err.result _ c.is_err.ensures.value c.if-is_err.false c.push.ensures.pushed))
    (changed_ranged c.args.field.now.ifd_num.0 change c.self.inside.ifds.items (entry_ranged c.args.field.now.tag.0 (entry_of c.args.field.now) entry) c.self.invariant)

pub returns-clause-pushed : goal.returns-clause-pushed
returns-clause-pushed c =
    rw (sym c.is_own.ensures ∙ c.if-is_own.false)
    (changed_by c.args.field.now.ifd_num.0 c.from-number.result (with_entry c.args.field.now.tag.0 (entry_of c.args.field.now)) c.args.self.now _ _ _
    c.from-number.ensures (c.in_ok-grow.ensures.made ∙ ap (grown c.from-number.result) c.self.view_is) c.index_mut.ensures.value
    (on_ok c.push.result c.is_err.result _ c.is_err.ensures.value c.if-is_err.false c.push.ensures.pushed))
