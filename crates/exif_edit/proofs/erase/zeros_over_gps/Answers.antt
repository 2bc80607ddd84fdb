use Rattle.exif_base.specs.Orders.{number_of}
use Rattle.exif_edit.proofs.EraseSteps.{zeros_found}
use Rattle.exif_edit.proofs.erase.zeros_over_gps.Goals as goal

pub returns : goal.returns
returns c =
    zeros_found (number_of c.args.order) c.args.bytes.now c.in_ok-offsets.offsets.items
    c.in_ok-patches.patches.items c.in_ok-offsets.ensures
    (rw c.as_slice.ensures.value at c.in_ok-patches.ensures)
