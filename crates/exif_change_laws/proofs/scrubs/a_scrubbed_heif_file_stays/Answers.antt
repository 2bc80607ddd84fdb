use Rattle.std.proofs.Common.{◌≡◌, ◌∙◌, List, ℕ, Ok, sym, subst}
use Rattle.exif_containers.specs.declared.container.Format.TheVariants.{Heif}
use Rattle.exif_scrub.specs.HeifScrubbing as heif
use Rattle.exif_change.specs.Changes.{heif_emptied}
use Rattle.exif_change_laws.proofs.HeifAgain.{heif_stays}
use Rattle.exif_change_laws.proofs.LeftKnown.{heif_taken}
use Rattle.exif_change_laws.proofs.ScrubbedFiles.{scrubbed_by}
use Rattle.exif_change_laws.proofs.scrubs.a_scrubbed_heif_file_stays.Goals as goal

pub returns : goal.returns
returns c = λ s.
    let first = s.first in
    let again = s.again in
    heif_stays first.file first.change again.change s.short s.known
    (sym (heif_taken first.removed first.file first.takes) ∙ sym (scrubbed_by Heif first.removed first.file first.of_format) ∙ first.made)
    (subst (λ (file : List ℕ). heif_emptied (heif.emptied file) ≡ Ok again.change) s.over
    (sym (heif_taken again.removed again.file again.takes) ∙ sym (scrubbed_by Heif again.removed again.file again.of_format) ∙ again.made))
