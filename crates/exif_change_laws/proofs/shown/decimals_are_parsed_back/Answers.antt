use Rattle.exif_change_laws.proofs.ShownFits.{decimals_fit}
use Rattle.exif_change_laws.proofs.ShownKinds.{decimals_again, decimals_shown}
use Rattle.exif_change_laws.proofs.shown.decimals_are_parsed_back.Goals as goal

pub returns : goal.returns
returns c = record {
  fractions = λ tag v h. decimals_shown tag v h.kind h.decimals;
  fits = λ tag v h. decimals_fit tag v h.kind h.decimals;
  again = λ tag v h. decimals_again tag v h.kind h.decimals;
}
