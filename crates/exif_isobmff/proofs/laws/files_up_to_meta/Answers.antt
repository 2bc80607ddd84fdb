use Rattle.exif_isobmff.proofs.LawsFiles.{meta_is_found, is_a_front}
use Rattle.exif_isobmff.proofs.laws.files_up_to_meta.Goals as goal

pub returns-clause-found : goal.returns-clause-found
returns-clause-found c = meta_is_found

pub returns-clause-every : goal.returns-clause-every
returns-clause-every c = is_a_front
