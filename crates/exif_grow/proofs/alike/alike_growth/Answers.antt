use Rattle.std.proofs.Common.{length, All, subst, sym}
use Rattle.exif_base.specs.Orders.{number_of}
use Rattle.exif_edit_base.specs.Patches.{FitsIn}
use Rattle.exif_grow.specs.Alike.{alike_patches, entry_copied}
use Rattle.exif_grow.proofs.AlikeSteps.{alike_fits, all_added}
use Rattle.exif_grow.proofs.alike.alike_growth.Goals as goal

pub returns-clause-within : goal.returns-clause-within
returns-clause-within c =
    let bytes = c.args.bytes.now in
    let es = c.args.entries.now in
    let number = number_of c.args.order in
    subst (λ ps. All (FitsIn (length bytes)) ps)
    (sym (all_added (entry_copied bytes c.args.entry) c.loop-other.patches.items
    (alike_patches c.args.clear number bytes c.args.entry es) es c.loop-other.other-index
    c.loop-other-test.false c.loop-other.invariant))
    (alike_fits c.args.clear number bytes c.args.entry es c.requires.all_whole)
