use Rattle.exif_assign.proofs.SpelledTypes.{value_type}
use Rattle.exif_assign.proofs.laws.values_are_of_their_types.Goals as goal

pub returns : goal.returns
returns c = value_type
