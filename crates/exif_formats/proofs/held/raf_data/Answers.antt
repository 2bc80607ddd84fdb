use Rattle.std.proofs.Common.{ap}
use Rattle.exif_formats.proofs.HeldData.{gives_raf}
use Rattle.exif_formats.proofs.held.raf_data.Goals as goal

pub returns : goal.returns
returns c =
    gives_raf c.get_exif_attr.result c.new.result.inner.now c.get_exif_attr.new.source.inner.now
    c.args.file.now c.get_exif_attr.ensures.found c.get_exif_attr.ensures.refused
    (ap (λ b. b.now) c.new.ensures.inner)
