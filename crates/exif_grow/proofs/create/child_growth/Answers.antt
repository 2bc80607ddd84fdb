use Rattle.std.proofs.Common.{length}
use Rattle.exif_grow.proofs.CreateSound.{patches_within}
use Rattle.exif_grow.proofs.create.child_growth.Goals as goal

pub returns-clause-within : goal.returns-clause-within
returns-clause-within c =
    patches_within c.args.clear c.args.order c.args.directory (length c.args.bytes.now)
    c.span_of.result c.in_ok-slot.slot c.in_ok-value_patches.field-0.items
    c.in_ok-value_patches.ensures c.span_of.ensures c.in_ok-slot.ensures c.requires.slot
    c.requires.whole
