use Rattle.exif_tiff.proofs.AnswerFields.{shown_fields, strict_whole}
use Rattle.exif_tiff.proofs.laws.answers.answers_show_what_was_read.Goals as goal

pub returns-clause-fields : goal.returns-clause-fields
returns-clause-fields c = shown_fields

pub returns-clause-strict : goal.returns-clause-strict
returns-clause-strict c = strict_whole
