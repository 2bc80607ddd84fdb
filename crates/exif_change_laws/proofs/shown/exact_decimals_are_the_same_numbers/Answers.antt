use Rattle.exif_change_laws.proofs.ShownAgain.{same_number}
use Rattle.exif_change_laws.proofs.ShownSigned.{same_signed}
use Rattle.exif_change_laws.proofs.shown.exact_decimals_are_the_same_numbers.Goals as goal

pub returns : goal.returns
returns c = record { unsigned = λ r. same_number r.num r.denom; signed = same_signed }
