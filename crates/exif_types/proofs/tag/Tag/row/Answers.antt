use Rattle.exif_types.specs.TagRows.{row_of_tag}
use Rattle.exif_types.proofs.tag.Tag.row.Goals as goal

pub returns : goal.returns
unfolding row_of_tag
returns c = c.find_row.ensures
