use Rattle.exif_layout.proofs.Images.Calls.{is_made_of, pushes_are_calls}
use Rattle.exif_layout.proofs.laws.pushing.calls_make_groups.Goals as goal

pub returns-clause-made : goal.returns-clause-made
returns-clause-made c = is_made_of

pub returns-clause-pushes : goal.returns-clause-pushes
returns-clause-pushes c = pushes_are_calls
