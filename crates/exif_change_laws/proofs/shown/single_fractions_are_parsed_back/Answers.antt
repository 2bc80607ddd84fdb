use Rattle.exif_change_laws.proofs.ShownSingle.{exposure_again, single_again, single_shown}
use Rattle.exif_change_laws.proofs.shown.single_fractions_are_parsed_back.Goals as goal

pub returns : goal.returns
returns c = record {
  parsed = single_shown;
  again = single_again;
  exposures = λ tag r new h. exposure_again tag r new h.kind h.shown;
}
