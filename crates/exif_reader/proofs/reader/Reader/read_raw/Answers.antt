use Rattle.exif_tiff.proofs.ReadingBounds.{is_bounded, reads_bounded}
use Rattle.exif_reader.proofs.reader.Reader.read_raw.Goals as goal

pub returns-clause-bounded : goal.returns-clause-bounded
returns-clause-bounded c =
    let laws = c.reading_is_bounded.ensures in
    reads_bounded c.args.self.now.lenient c.args.self.now.limit c.args.bytes.items c.read.result
    (is_bounded c.args.self.now.limit c.args.bytes.items (rw (c.as_slice.ensures.value) at (c.show_bytes.ensures)) laws.visits laws.any_limit laws.least)
    c.read.ensures
