use Rattle.exif_containers.proofs.Replacing.{data_are_replaced}
use Rattle.exif_containers.proofs.laws.exif_data_can_be_replaced.Goals as goal

pub returns : goal.returns
returns c = data_are_replaced
