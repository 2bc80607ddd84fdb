use Rattle.std.proofs.Common.{◌∙◌, sym}
use Rattle.exif_containers.specs.declared.container.Format.TheVariants.{Heif}
use Rattle.exif_tiff.specs.Trace.{trace}
use Rattle.exif_change.specs.declared.scrubbing.Removed.TheVariants.{AllButOrientation}
use Rattle.exif_scrub.specs.HeifScrubbing as heif
use Rattle.exif_change_laws.proofs.ScrubbedFiles.{heif_read, heif_short, scrubbed_by, scrubbed_read}
use Rattle.exif_change_laws.proofs.a_scrubbed_file_has_no_field.Goals as goal

pub returns-clause-all : goal.returns-clause-all
returns-clause-all c = λ file new other e short small.
    scrubbed_read file new c.file_answers_what_was_put.ensures
    (record {
      within = c.limits_cut_readings.ensures.unchanged;
      past = λ n bytes. c.limits_cut_readings.ensures.past n (trace bytes);
      cut = c.limits_cut_readings.ensures.lenient;
    })
    other short small e

pub returns-clause-heif : goal.returns-clause-heif
returns-clause-heif c = λ file new format e short.
    heif_read (heif.emptied file) new
    (record {
      within = c.limits_cut_readings.ensures.unchanged;
      past = λ n bytes. c.limits_cut_readings.ensures.past n (trace bytes);
      cut = c.limits_cut_readings.ensures.lenient;
    })
    (heif_short file short) (sym (scrubbed_by Heif AllButOrientation file format) ∙ e)
