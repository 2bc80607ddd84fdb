use Rattle.exif_rename.proofs.Distinct.{to_free}
use Rattle.std.specs.Prelude.{[]}
use Rattle.exif_rename.proofs.laws.moves_are_to_free_paths.Goals as goal

pub returns : goal.returns
returns c = λ free requests numbers is. to_free free [] requests numbers is
