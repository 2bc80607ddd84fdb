use Rattle.exif_movie.proofs.PartOrder.{video_ordered}
use Rattle.exif_movie.proofs.laws.parts_are_the_file.Goals as goal

pub returns : goal.returns
returns c = video_ordered
