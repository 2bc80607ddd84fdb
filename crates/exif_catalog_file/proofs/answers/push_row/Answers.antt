use Rattle.std.proofs.Common.{◌<◌, arith, length}
use Rattle.exif_catalog_file.proofs.Rowwise.{cell_more}
use Rattle.exif_catalog_file.proofs.answers.push_row.Goals as goal

pub loop-i-preserved : goal.loop-i-preserved
loop-i-preserved c =
    let within : c.loop-i.i < length c.args.row.now = omega arith in
    cell_more c.args.row.now c.loop-i.i _ _ _ c.loop-i.invariant.0 within c.loop-i.invariant.1
    c.loop-i.invariant.2 c.in_ok-push_cell.ensures.cell
