use Rattle.exif_rename.proofs.Distinct.{as_many}
use Rattle.std.specs.Prelude.{[]}
use Rattle.exif_rename.proofs.laws.each_request_has_a_number.Goals as goal

pub returns : goal.returns
returns c = λ free requests numbers is. as_many free [] requests numbers is
