use Rattle.std.proofs.Common.{◌≡◌, false, drop, ap, sym, ◌∙◌, arith, rules}
use Rattle.std.proofs.lemmas.List.{take_rest}
use Rattle.exif_inventory.specs.JpegPieces.{is_stream}
use Rattle.exif_inventory.proofs.ScanSteps.{gap_on}
use Rattle.exif_inventory.proofs.jpeg.gap_len.Goals as goal

pub loop-n-preserved : goal.loop-n-preserved
loop-n-preserved c =
    let bytes = c.args.bytes.now in
    let n = c.loop-n.n in
    let none : is_stream (drop n bytes) ≡ false = ap is_stream (sym (take_rest bytes n)) ∙ (sym c.is_stream.ensures ∙ search rules) in
    record {
      so_far = gap_on n bytes c.loop-n-test.true none c.loop-n.invariant.so_far;
      within = omega arith;
    }
