use Rattle.exif_layout.proofs.Images.Pushed.{pushes_plain, pushes_ranged, pushes_few, pushes_no_blocks, sets_nothing}
use Rattle.exif_layout.proofs.laws.pushing.pushing_keeps.Goals as goal

pub returns-clause-plain : goal.returns-clause-plain
returns-clause-plain c = pushes_plain

pub returns-clause-ranged : goal.returns-clause-ranged
returns-clause-ranged c = pushes_ranged

pub returns-clause-few : goal.returns-clause-few
returns-clause-few c = pushes_few

pub returns-clause-no_blocks : goal.returns-clause-no_blocks
returns-clause-no_blocks c = pushes_no_blocks

pub returns-clause-nothing_set : goal.returns-clause-nothing_set
returns-clause-nothing_set c = sets_nothing
