use Rattle.std.proofs.Common.{rules}
use Rattle.exif_inventory_heif.proofs.PartOrder.{parts_are}
use Rattle.exif_inventory_heif.proofs.parts.parts_of.Goals as goal

pub returns : goal.returns
returns c =
    let p = parts_are c.args.file.now c.in_ok-spans.spans.items c.in_ok-spans.judged c.in_ok-parts.parts.items (search rules) (search rules) (search rules) in
    record { parts = p.0; covers = p.1; within = p.2; inside = p.3 }
