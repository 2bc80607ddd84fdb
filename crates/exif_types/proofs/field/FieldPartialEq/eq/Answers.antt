use Rattle.exif_types.specs.FieldEq.{field_Decides}
use Rattle.exif_types.proofs.field.FieldPartialEq.eq.Goals as goal

pub returns-clause-equal : goal.returns-clause-equal
returns-clause-equal c = rw c.is_same.ensures (field_Decides c.args.self.now c.args.other.now)
