use Rattle.std.proofs.Common.{ap, ◌∙◌}
use Rattle.exif_assign.specs.Assigning.{parts_of}
use Rattle.exif_setting.specs.Setting.{set_here}
use Rattle.exif_c.specs.Statuses.{number_of}
use Rattle.exif_c.proofs.Numbered.{ends_refused}
use Rattle.exif_c.proofs.change.set_by.Goals as goal

pub returns-in-Err : goal.returns-in-Err
returns-in-Err c =
    ends_refused c.in-Err.refusal c.number-in-Err.result c.args.file.now c.set_here.new.file
    (set_here (parts_of c.args.assignment.now) c.args.file.now)
    (c.number-in-Err.ensures ∙ ap number_of c.refusal_status.ensures) c.in-Err.ensures.0 c.in-Err.ensures.1
