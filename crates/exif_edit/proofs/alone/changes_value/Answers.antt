use Rattle.std.proofs.Common.{◌+◌, ◌≤◌, arith, ap, subst, sym, length, ◌∙◌}
use Rattle.exif_base.specs.Orders.{number_of}
use Rattle.exif_edit_base.specs.declared.patch.Span.{Span}
use Rattle.exif_edit.specs.Changing.{changes}
use Rattle.exif_edit.proofs.AloneSteps.{stretch_of, value_near, value_same}
use Rattle.exif_edit.proofs.alone.changes_value.Goals as goal

pub changes-requires-clause-stretch : goal.changes-requires-clause-stretch
changes-requires-clause-stretch c =
    let near = subst (λ (s : Span). s.offset + s.len ≤ length c.args.bytes.now)
    (sym c.value_span-value.ensures)
    (value_near (number_of c.args.order) c.args.bytes.now c.args.at) in
    omega (arith, near)

pub returns : goal.returns
returns c =
    c.changes.ensures
    ∙ (ap (λ s. changes c.args.patches.now (stretch_of s)) c.value_span-value.ensures
    ∙ value_same c.args.patches.now (number_of c.args.order) c.args.bytes.now c.args.at)
