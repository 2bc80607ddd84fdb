use Rattle.exif_formats.proofs.Cr3Headers.{boxed_header, wrong_header}
use Rattle.exif_formats.proofs.raw.cr3.walk.boxed.Goals as goal

pub returns-clause-header : goal.returns-clause-header
returns-clause-header c = boxed_header c.args.bytes.now c.header_in.result c.requires c.header_in.ensures

pub returns-clause-refused : goal.returns-clause-refused
returns-clause-refused c = wrong_header c.args.bytes.now c.header_in.result c.requires c.header_in.ensures
