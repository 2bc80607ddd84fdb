use Rattle.std.proofs.Common.{sym, ◌∙◌}
use Rattle.std.proofs.lemmas.Bool.{not-true}
use Rattle.exif_edit.proofs.AloneSound.{offsets_parts}
use Rattle.exif_edit.proofs.alone.gps_is_unshared.Goals as goal

pub returns : goal.returns
returns c h =
    let any = rw c.directories-2.ensures at c.changes_kept.ensures in
    offsets_parts c.args.bytes.now c.args.order c.args.patches.now c.args.walk.now
    c.requires.header c.requires.found c.requires.erased
    (sym c.changes.ensures ∙ c.if-changes.false)
    (sym any ∙ not-true c.changes_kept.result h)
