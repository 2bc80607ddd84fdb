use Rattle.std.proofs.Common.{◌∙◌, false, None, Some, Err, sym, ap}
use Rattle.exif_containers.specs.declared.container.Format.TheVariants.{Jpeg}
use Rattle.exif_segments.specs.declared.remove.Remove.TheVariants as remove
use Rattle.exif_change.specs.Changes.{scrubbed_as, without_metadata}
use Rattle.exif_change.specs.Found.{loose_parts}
use Rattle.exif_change.specs.Refusals.{as_read, unknown_format}
use Rattle.exif_change.specs.Rewriting.{rewritten}
use Rattle.exif_change.specs.declared.scrubbing.Removed.TheVariants.{Metadata}
use Rattle.exif_change.proofs.FoundParts.{with_found_whole, with_parts_whole}
use Rattle.exif_change.proofs.Scrubbed.{jpeg_answers}
use Rattle.exif_change.proofs.laws.a_scrubbed_jpeg_file_has_no_exif.Goals as goal

pub returns : goal.returns
returns c = λ file new format front e short.
    jpeg_answers remove.Metadata None file new
    (with_found_whole false (as_read (rewritten Jpeg remove.Metadata None file)) new
    (with_parts_whole (loose_parts file) (without_metadata Jpeg Metadata file) new
    (sym (ap (λ f. elim f [ Some format ↦ scrubbed_as format Metadata file | None ↦ Err unknown_format ]) format) ∙ e))) short
