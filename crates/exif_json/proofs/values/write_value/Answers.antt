use Rattle.std.proofs.Common.{refl}
use Rattle.exif_json.proofs.values.write_value.Goals as goal

pub returns-in-Undefined : goal.returns-in-Undefined
returns-in-Undefined c = rw c.in-Undefined.is (rw c.as_slice-in-Undefined.ensures at (c.shown.ensures.prints _ refl))
