use Rattle.exif_change_laws.proofs.SetBytes.{set_again}
use Rattle.exif_change_laws.proofs.sets.a_value_that_is_set_again_changes_no_byte.Goals as goal

pub returns : goal.returns
returns c = λ s. set_again s.tag s.ifd_num s.value s.old s.new s.again s.made s.made_again s.entry
