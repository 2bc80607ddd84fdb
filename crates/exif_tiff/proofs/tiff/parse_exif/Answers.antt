use Rattle.std.proofs.Common.{None}
use Rattle.exif_tiff.proofs.ReadingBounds.{is_bounded, parses_bounded}
use Rattle.exif_tiff.proofs.tiff.parse_exif.Goals as goal

pub returns-clause-bounded : goal.returns-clause-bounded
returns-clause-bounded c =
    let laws = c.reading_is_bounded.ensures in
    parses_bounded c.args.bytes.now c.parse_strictly.result
    (is_bounded None c.args.bytes.now c.show_bytes.ensures laws.visits laws.any_limit laws.least)
    c.parse_strictly.ensures
