-- What is counted beside the files of a run.
use Rattle.exif_files.specs.Statuses.{worse}
use Rattle.exif_files.specs.declared.outcome.Status.{Status}
use Rattle.exif_inputs.specs.Pending.{with_counts}
use Rattle.exif_inputs.specs.declared.pending.Pending.{Pending}

-- what became of something that is no file of the run; all else stays
abbrev pub with_beside : Status → Pending → Pending
with_beside status pending =
    with_counts (record pending.counts { beside = worse pending.counts.beside status }) pending
