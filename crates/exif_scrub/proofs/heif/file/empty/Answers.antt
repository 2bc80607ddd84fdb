use Rattle.std.proofs.Common.{ap, sym, ◌∙◌, arith, rules}
use Rattle.std.specs.Option.{option_map}
use Rattle.exif_inventory_heif.specs.Carving.{layout_view}
use Rattle.exif_inventory_heif.specs.Inventories.{heif_layout}
use Rattle.exif_scrub.proofs.SpanSteps.{all_become}
use Rattle.exif_scrub.proofs.heif.file.empty.Goals as goal

pub returns-clause-each : goal.returns-clause-each
returns-clause-each c =
    let found = c.in-Some.found in
    all_become c.args.file.now c.loop-span.file (heif_layout c.args.file.now) found.spans.items c.deref-span-items.result.now found.judged c.loop-span.span-index
    (sym c.in_ok-found.ensures.answer ∙ ap (option_map layout_view) c.in-Some.is)
    (search rules) (search rules) (omega arith) c.loop-span.invariant.made
