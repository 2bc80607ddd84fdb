use Rattle.exif_edit.proofs.AloneSound.{value_changes}
use Rattle.exif_edit.proofs.AloneSteps.{fit_small}
use Rattle.exif_edit.proofs.SetSound.{edit_fits_in, value_fits}
use Rattle.exif_edit.proofs.set.is_alone.Goals as goal

pub is_unshared-requires-clause-whole : goal.is_unshared-requires-clause-whole
is_unshared-requires-clause-whole c =
    (edit_fits_in c.args.order c.args.value.now c.args.found.now.entry c.args.bytes.now
    c.args.edit.now.patches.items c.requires.edit).whole

pub is_unshared-requires-clause-patches : goal.is_unshared-requires-clause-patches
is_unshared-requires-clause-patches c =
    rw c.as_slice.ensures.value
    (fit_small _ _ c.requires.small
    (value_fits c.args.order c.args.value.now c.args.found.now.entry c.args.bytes.now
    c.args.edit.now.patches.items
    (edit_fits_in c.args.order c.args.value.now c.args.found.now.entry c.args.bytes.now
    c.args.edit.now.patches.items c.requires.edit)))

pub is_unshared-requires-clause-set : goal.is_unshared-requires-clause-set
is_unshared-requires-clause-set c =
    rw c.as_slice.ensures.value
    (value_changes c.args.order c.args.value.now c.args.found.now.entry c.args.bytes.now
    c.args.edit.now.patches.items
    (edit_fits_in c.args.order c.args.value.now c.args.found.now.entry c.args.bytes.now
    c.args.edit.now.patches.items c.requires.edit))
