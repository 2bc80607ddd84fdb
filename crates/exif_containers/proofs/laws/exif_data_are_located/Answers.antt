use Rattle.exif_containers.proofs.Replacing.{data_are_located, refused_alike}
use Rattle.exif_containers.proofs.laws.exif_data_are_located.Goals as goal

pub returns-clause-located : goal.returns-clause-located
returns-clause-located c = data_are_located

pub returns-clause-refused : goal.returns-clause-refused
returns-clause-refused c = refused_alike
