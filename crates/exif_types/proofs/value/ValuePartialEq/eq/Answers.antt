use Rattle.exif_types.specs.ValueEq.{value_Decides}
use Rattle.exif_types.proofs.value.ValuePartialEq.eq.Goals as goal

pub returns-clause-equal : goal.returns-clause-equal
returns-clause-equal c = rw c.is_same.ensures (value_Decides c.args.self.now c.args.other.now)
