use Rattle.exif_change_laws.proofs.ShownSet.{decimals_set, plain_set, single_set}
use Rattle.exif_change_laws.proofs.shown.shown_values_are_set_again.Goals as goal

pub returns : goal.returns
returns c = record {
  plain = λ h. plain_set h.fields h.tag h.field h.has;
  decimals = λ h. decimals_set h.fields h.tag h.field h.has;
  single = λ h r new x. single_set h.fields h.tag h.field r new h.has x.value x.shown x.fits;
}
