use Rattle.std.proofs.Common.{◌∙◌, sym}
use Rattle.exif_containers.specs.declared.container.Format.TheVariants.{Heif}
use Rattle.exif_change_laws.proofs.LeftKnown.{heif_known, heif_taken}
use Rattle.exif_change_laws.proofs.ScrubbedFiles.{scrubbed_by}
use Rattle.exif_change_laws.proofs.scrubs.what_is_left_of_a_heif_file_is_answered.Goals as goal

pub returns : goal.returns
returns c = λ s known.
    heif_known s.file s.change known (sym (heif_taken s.removed s.file s.takes) ∙ sym (scrubbed_by Heif s.removed s.file s.of_format) ∙ s.made)
