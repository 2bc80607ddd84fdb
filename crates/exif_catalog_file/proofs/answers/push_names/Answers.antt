use Rattle.std.proofs.Common.{◌<◌, arith, length}
use Rattle.exif_catalog_file.proofs.Tabs.{line_more}
use Rattle.exif_catalog_file.proofs.answers.push_names.Goals as goal

pub loop-i-preserved : goal.loop-i-preserved
loop-i-preserved c =
    let within : c.loop-i.i < length c.args.names.now = omega arith in
    line_more c.args.names.now c.loop-i.i _ _ _ _ c.index-names-i.result within c.loop-i.invariant
    c.in_ok-push_gap.ensures (rw c.as_slice.ensures at c.in_ok-push_text.ensures)
    c.index-names-i.is
