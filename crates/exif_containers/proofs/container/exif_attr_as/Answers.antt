use Rattle.std.proofs.Common.{rules}
use Rattle.exif_containers.specs.Container.{answer_as}
use Rattle.exif_containers.proofs.ContainerSteps.{jpeg_gives, with_start}
use Rattle.exif_containers.proofs.ContainerNames.{named_jpeg, named_heif, named_webp}
use Rattle.exif_containers.proofs.container.exif_attr_as.Goals as goal

pub returns-in-Some-Jpeg-clause-named : goal.returns-in-Some-Jpeg-clause-named
returns-in-Some-Jpeg-clause-named g c = named_jpeg c.get_exif_attr.result c.get_exif_attr.ensures.named

pub returns-in-Some-Heif-clause-named : goal.returns-in-Some-Heif-clause-named
returns-in-Some-Heif-clause-named g c = named_heif c.exif_from.result c.exif_from.ensures.named

pub returns-in-Some-WebP-clause-named : goal.returns-in-Some-WebP-clause-named
returns-in-Some-WebP-clause-named g c = named_webp c.get_exif_attr-in-Some-WebP.result c.get_exif_attr-in-Some-WebP.ensures.named

pub returns-in-Some-Jpeg-clause-gives : goal.returns-in-Some-Jpeg-clause-gives
returns-in-Some-Jpeg-clause-gives g c =
    with_start (g.R.Source.left c.args.source.now) _ _
    (jpeg_gives (λ v. v.items) c.get_exif_attr.result c.args.format (g.R.Source.left c.args.source.now) (g.R.Source.left c.get_exif_attr.new.source) (search rules)
    c.get_exif_attr.ensures.found c.get_exif_attr.ensures.refused)

pub returns-in-None-clause-gives : goal.returns-in-None-clause-gives
unfolding answer_as
returns-in-None-clause-gives g c = search rules
