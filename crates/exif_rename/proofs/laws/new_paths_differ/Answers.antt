use Rattle.exif_rename.proofs.Distinct.{differ}
use Rattle.std.specs.Prelude.{[]}
use Rattle.exif_rename.proofs.laws.new_paths_differ.Goals as goal

pub returns : goal.returns
returns c = λ free requests numbers is. differ free [] requests numbers is
