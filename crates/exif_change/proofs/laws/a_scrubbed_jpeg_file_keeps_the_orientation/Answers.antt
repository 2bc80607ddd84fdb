use Rattle.std.proofs.Common.{◌∙◌, is_some, None, Some, Err, sym, ap}
use Rattle.exif_containers.specs.declared.container.Format.TheVariants.{Jpeg}
use Rattle.exif_segments.specs.declared.remove.Remove.TheVariants as remove
use Rattle.exif_change.specs.Changes.{scrubbed_as, without_metadata}
use Rattle.exif_change.specs.Found.{loose_parts, with_found}
use Rattle.exif_change.specs.Refusals.{as_read, unknown_format, ◌>>=◌}
use Rattle.exif_change.specs.Rewriting.{rewritten}
use Rattle.exif_change.specs.declared.scrubbing.Removed.TheVariants.{AllButOrientation}
use Rattle.exif_change.proofs.FoundParts.{with_found_whole, with_parts_whole}
use Rattle.exif_change.proofs.Scrubbed.{jpeg_answers}
use Rattle.exif_change.proofs.laws.a_scrubbed_jpeg_file_keeps_the_orientation.Goals as goal

pub returns : goal.returns
returns c = λ file new put format front kept e short.
    jpeg_answers remove.Metadata put file new
    (with_found_whole (is_some put) (as_read (rewritten Jpeg remove.Metadata put file)) new
    (sym (ap (λ r. r >>= λ put. with_found (is_some put) (as_read (rewritten Jpeg remove.Metadata put file))) kept)
    ∙ with_parts_whole (loose_parts file) (without_metadata Jpeg AllButOrientation file) new
    (sym (ap (λ f. elim f [ Some format ↦ scrubbed_as format AllButOrientation file | None ↦ Err unknown_format ]) format) ∙ e))) short
