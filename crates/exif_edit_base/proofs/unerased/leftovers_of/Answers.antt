use Rattle.exif_base.specs.Orders.{number_of}
use Rattle.exif_edit_base.specs.Readings.{read_of}
use Rattle.exif_edit_base.proofs.LeftSteps.{left_found, left_read, met_found, pointers_found}
use Rattle.exif_edit_base.proofs.unerased.leftovers_of.Goals as goal

pub returns : goal.returns
returns c =
    let order = c.order_named-order.result in
    let number = number_of order in
    let bytes = c.args.bytes.now in
    let ds = c.in_ok-directories.directories.items in
    let ps = c.in_ok-pointers.pointers.items in
    left_read bytes (read_of c.args.located.now.parsed) order c.in_ok-left.left.items
    c.in_ok-met.met c.requires.reads c.order_named-order.ensures
    (left_found number bytes c.in_ok-erased.erased.items ps c.in_ok-left.left.items
    c.in_ok-erased.ensures
    (pointers_found number bytes ds ps c.in_ok-directories.ensures
    (rw c.as_slice-2.ensures.value at c.in_ok-pointers.ensures))
    (rw (c.as_slice-3.ensures.value, c.as_slice-4.ensures.value) at c.in_ok-left.ensures))
    (met_found number bytes ds c.in_ok-met.met c.in_ok-directories.ensures
    (rw c.as_slice.ensures.value at c.in_ok-met.ensures))
