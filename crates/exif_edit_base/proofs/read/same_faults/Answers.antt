use Rattle.std.proofs.Common.{◌∙◌}
use Rattle.exif_edit_base.proofs.ReadFaults.{faults_same}
use Rattle.exif_edit_base.proofs.read.same_faults.Goals as goal

pub returns : goal.returns
returns c = c.eq.ensures ∙ faults_same c.args.a.now c.args.b.now
