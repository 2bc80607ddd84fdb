use Rattle.std.proofs.Common.{[], ◌++◌, ◌∙◌, ◌<◌, ap, arith, get_or, length}
use Rattle.csv.specs.Records.{fields_of}
use Rattle.exif_columns.specs.Lines.{escaped_cell, gap_before}
use Rattle.exif_columns.proofs.Tabs.{separated_more}
use Rattle.exif_columns.proofs.tsv_lines.tsv_line.Goals as goal

pub loop-i-preserved : goal.loop-i-preserved
loop-i-preserved c =
    let within : c.loop-i.i < length (fields_of c.args.cells.now) = omega arith in
    c.in_ok-push_cell.ensures
    ∙ (ap (λ front. front ++ escaped_cell (get_or (fields_of c.args.cells.now) c.loop-i.i [])) (c.in_ok-push_gap.ensures ∙ ap (λ front. front ++ gap_before c.loop-i.i) c.loop-i.invariant)
    ∙ separated_more escaped_cell (fields_of c.args.cells.now) c.loop-i.i [] within)
