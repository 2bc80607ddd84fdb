use Rattle.std.proofs.Common.{true, false, ap, sym, ◌∙◌, arith}
use Rattle.exif_xmp_set.specs.Added.{is_rdf_end}
use Rattle.exif_xmp_set.proofs.Places.{end_step}
use Rattle.exif_xmp_set.proofs.adding.rdf_end.Goals.{then-is_rdf_end, else-is_rdf_end}
use Rattle.exif_xmp_set.proofs.adding.rdf_end.Goals as goal

pub loop-i-preserved : goal.loop-i-preserved
loop-i-preserved c =
    let l = c.loop-i in
    let here = ap is_rdf_end (sym c.bytes_behind.ensures) ∙ sym c.is_rdf_end.ensures in
    elim c.if-is_rdf_end.branch [
      | then-is_rdf_end w ↦ l.invariant ∙ end_step c.args.packet.now l.found c.if-is_rdf_end.found l.i true (omega (arith, c.loop-i-test.true)) (here ∙ w.if-is_rdf_end.true) w.found-is
      | else-is_rdf_end w ↦ l.invariant ∙ end_step c.args.packet.now l.found c.if-is_rdf_end.found l.i false (omega (arith, c.loop-i-test.true)) (here ∙ w.if-is_rdf_end.false) w.found-is
    ]
