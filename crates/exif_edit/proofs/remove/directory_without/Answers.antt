use Rattle.std.proofs.Common.{◌∙◌}
use Rattle.exif_edit.proofs.RemoveSteps.{directory_made, whole_fits}
use Rattle.exif_edit.proofs.remove.directory_without.Goals as goal

pub padded-requires : goal.padded-requires
padded-requires c =
    rw c.as_slice.ensures.value
    (whole_fits c.args.order c.args.bytes.now c.args.number c.args.offset
    c.whole_entries-count.result c.in_ok-kept.kept.count c.in_ok-kept.kept.encoded.items
    c.as_slice-next.result.now c.in_ok-encoded.encoded.items
    c.in_ok-kept.ensures.encoded c.in_ok-encoded.ensures)

pub returns : goal.returns
returns c =
    directory_made c.args.order c.args.bytes.now c.args.number c.args.offset
    c.whole_entries-count.result c.in_ok-kept.kept.count c.in_ok-kept.kept.encoded.items
    c.as_slice-next.result.now c.in_ok-encoded.encoded.items c.in_ok-directory.directory.items
    c.whole_entries-count.ensures.value c.in_ok-kept.ensures.count c.in_ok-kept.ensures.encoded
    (c.as_slice-next.ensures.value ∙ c.in_ok-next.ensures) c.in_ok-encoded.ensures
    (rw c.as_slice.ensures.value at c.in_ok-directory.ensures)
