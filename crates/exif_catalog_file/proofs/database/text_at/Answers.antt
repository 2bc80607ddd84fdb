use Rattle.std.proofs.Common.{rules}
use Rattle.std.proofs.lemmas.Str.{is_utf8-from_IsUtf8}
use Rattle.exif_catalog_file.proofs.Encodings.{not_utf8}
use Rattle.exif_catalog_file.proofs.database.text_at.Goals as goal

pub returns-in_ok-from_str-in-Ok-clause-text : goal.returns-in_ok-from_str-in-Ok-clause-text
returns-in_ok-from_str-in-Ok-clause-text c =
    search (rules, is_utf8-from_IsUtf8 _ c.in-Ok.ensures.cases.1)

pub returns-in-Err-clause-refused : goal.returns-in-Err-clause-refused
returns-in-Err-clause-refused c = search (rules, not_utf8 _ c.in-Err.ensures.cases.0)
