use Rattle.exif_change_laws.proofs.SetFileBytes.{set_file_again}
use Rattle.exif_change_laws.proofs.sets.a_field_that_is_set_again_changes_no_byte_of_a_file.Goals as goal

pub returns : goal.returns
returns c = λ s.
    set_file_again s.field s.file s.new s.again s.old s.kept s.short s.held s.still_held s.made s.made_again s.entry
    s.ranges
