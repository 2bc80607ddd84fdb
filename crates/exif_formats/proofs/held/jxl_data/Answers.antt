use Rattle.std.proofs.Common.{ap}
use Rattle.exif_formats.proofs.HeldData.{gives_jxl}
use Rattle.exif_formats.proofs.held.jxl_data.Goals as goal

pub returns : goal.returns
returns c =
    gives_jxl c.get_exif_attr_from_jxl.result c.new.result.inner.now c.get_exif_attr_from_jxl.new.source.inner.now
    c.args.file.now c.get_exif_attr_from_jxl.ensures.found c.get_exif_attr_from_jxl.ensures.refused
    (ap (λ b. b.now) c.new.ensures.inner)
