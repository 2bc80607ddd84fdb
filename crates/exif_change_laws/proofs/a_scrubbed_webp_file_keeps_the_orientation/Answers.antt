use Rattle.std.proofs.Common.{refl}
use Rattle.exif_containers.specs.declared.container.Format.TheVariants.{WebP}
use Rattle.exif_change_laws.proofs.KeptOrientation.{kept_answers}
use Rattle.exif_change_laws.proofs.a_scrubbed_webp_file_keeps_the_orientation.Goals as goal

pub returns : goal.returns
returns c = λ file new put format k e short.
    kept_answers WebP put file new c.file_answers_what_was_put.ensures refl format k e short
