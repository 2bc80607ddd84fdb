use Rattle.std.proofs.Common.{◌∙◌, false, None, sym}
use Rattle.exif_containers.specs.declared.container.Format.TheVariants.{WebP}
use Rattle.exif_segments.specs.declared.remove.Remove.TheVariants as remove
use Rattle.exif_change.specs.Refusals.{as_read}
use Rattle.exif_change.specs.Rewriting.{rewritten}
use Rattle.exif_change.specs.declared.scrubbing.Removed.TheVariants.{Metadata}
use Rattle.exif_change.proofs.FoundParts.{with_found_whole}
use Rattle.exif_change.proofs.Scrubbed.{webp_answers}
use Rattle.exif_change_laws.proofs.ScrubbedFiles.{scrubbed_by, webp_front}
use Rattle.exif_change_laws.proofs.a_scrubbed_webp_file_has_no_exif.Goals as goal

pub returns : goal.returns
returns c = λ file new format e short.
    webp_answers remove.Metadata None file new c.file_answers_what_was_put.ensures (webp_front file format)
    (with_found_whole false (as_read (rewritten WebP remove.Metadata None file)) new (sym (scrubbed_by WebP Metadata file format) ∙ e)) short
