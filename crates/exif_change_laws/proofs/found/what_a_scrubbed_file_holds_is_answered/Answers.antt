use Rattle.exif_change_laws.proofs.FoundFiles.{all_answered, kept_answered}
use Rattle.exif_change_laws.proofs.found.what_a_scrubbed_file_holds_is_answered.Goals as goal

pub returns-clause-all : goal.returns-clause-all
returns-clause-all c = all_answered

pub returns-clause-kept : goal.returns-clause-kept
returns-clause-kept c = kept_answered
