use Rattle.std.proofs.Common.{◌∙◌, refl}
use Rattle.exif_iptc.proofs.Naming.{other_name, row_found, row_passed, same_name}
use Rattle.exif_iptc.proofs.names.row_named.Goals as goal

pub returns-then-eq_ignore_ascii_case : goal.returns-then-eq_ignore_ascii_case
returns-then-eq_ignore_ascii_case c =
    row_found c.args.name.now c.args.rows.now c.loop-row.row-index _ c.loop-row-test.true (same_name _ _ (c.if-eq_ignore_ascii_case.ensures.test.0 refl))
    ∙ c.loop-row.invariant

pub loop-row-preserved : goal.loop-row-preserved
loop-row-preserved c =
    row_passed c.args.name.now c.args.rows.now c.loop-row.row-index _ c.loop-row-test.true (other_name _ _ c.if-eq_ignore_ascii_case.ensures.test.1)
    ∙ c.loop-row.invariant
