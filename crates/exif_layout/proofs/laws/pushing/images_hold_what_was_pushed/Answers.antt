use Rattle.exif_layout.proofs.Images.Held.{holds_in_tag_order}
use Rattle.exif_layout.proofs.Images.Pushed.{has_pushed_and_blocks, has_pushed_alone}
use Rattle.exif_layout.proofs.laws.pushing.images_hold_what_was_pushed.Goals as goal

pub returns-clause-groups : goal.returns-clause-groups
returns-clause-groups c = has_pushed_and_blocks

pub returns-clause-alone : goal.returns-clause-alone
returns-clause-alone c = has_pushed_alone

pub returns-clause-sorted : goal.returns-clause-sorted
returns-clause-sorted c = holds_in_tag_order
