use Rattle.std.proofs.Common.{length, rules}
use Rattle.exif_inventory_heif.proofs.Apart.{picture_apart}
use Rattle.exif_inventory_heif.proofs.PartOrder.{layout_ordered, spans_inside}
use Rattle.exif_inventory_heif.proofs.parts.layout_of.Goals as goal

pub returns-clause-ordered : goal.returns-clause-ordered
returns-clause-ordered c =
    layout_ordered c.args.file.now c.in_ok-spans.spans.items c.in_ok-layout.layout.spans.items c.in_ok-layout.layout.judged c.in_ok-spans.ensures.ordered (search rules)

pub returns-clause-inside : goal.returns-clause-inside
returns-clause-inside c =
    let ordered = layout_ordered c.args.file.now c.in_ok-spans.spans.items c.in_ok-layout.layout.spans.items c.in_ok-layout.layout.judged c.in_ok-spans.ensures.ordered (search rules) in
    spans_inside 0 c.in_ok-layout.layout.spans.items (length c.args.file.now) ordered

pub returns-clause-apart : goal.returns-clause-apart
returns-clause-apart c =
    picture_apart c.args.file.now c.in_ok-spans.spans.items c.in_ok-layout.layout.spans.items c.in_ok-layout.layout.judged c.in_ok-spans.ensures.spans c.in_ok-spans.ensures.ordered (search rules)
