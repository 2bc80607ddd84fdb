use Rattle.exif_containers.proofs.ContainerSteps.{tiff_is_whole}
use Rattle.exif_containers.proofs.laws.tiff_data_stand_alone.Goals as goal

pub returns : goal.returns
returns c = record { whole = tiff_is_whole }
