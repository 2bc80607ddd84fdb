use Rattle.std.proofs.Common.{ap}
use Rattle.exif_formats.proofs.HeldData.{gives_png}
use Rattle.exif_formats.proofs.held.png_data.Goals as goal

pub returns : goal.returns
returns c =
    gives_png c.get_exif_attr_from_png.result c.new.result.inner.now c.get_exif_attr_from_png.new.source.inner.now
    c.args.file.now c.get_exif_attr_from_png.ensures.found c.get_exif_attr_from_png.ensures.refused
    (ap (λ b. b.now) c.new.ensures.inner)
