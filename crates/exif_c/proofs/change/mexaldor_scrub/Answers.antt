use Rattle.std.proofs.Common.{ap, subst, ◌∙◌, List, ℕ}
use Rattle.exif_change.specs.Pictures.{picture_scrubbed}
use Rattle.exif_change.specs.Refusals.{Fails}
use Rattle.exif_change.specs.declared.scrubbing.Removed.TheVariants.{Metadata}
use Rattle.exif_c.specs.Statuses.{number_of}
use Rattle.exif_c.proofs.Numbered.{puts_refused}
use Rattle.exif_c.proofs.change.mexaldor_scrub.Goals as goal

pub returns-in-Err : goal.returns-in-Err
returns-in-Err c =
    puts_refused c.in-Err.refusal c.nothing-in-Err.result c.args.out.now (picture_scrubbed Metadata c.args.file.now)
    (record {
      ended = c.nothing-in-Err.ensures.ended ∙ ap number_of c.refusal_status.ensures;
      none = c.nothing-in-Err.ensures.none;
    })
    (subst (λ (f : List ℕ). Fails c.in-Err.refusal (picture_scrubbed Metadata f)) c.in-Ok.ensures.items c.in-Err.ensures)
