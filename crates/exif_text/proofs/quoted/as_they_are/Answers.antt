use Rattle.std.proofs.Common.{sym, ◌∙◌}
use Rattle.exif_text.proofs.QuotedLemmas.{plain_escaped}
use Rattle.exif_text.proofs.quoted.as_they_are.Goals as goal

pub returns-in-Ok : goal.returns-in-Ok
returns-in-Ok c = c.in-Ok.ensures.cases.0 ∙ plain_escaped c.args.bytes.now (sym c.if-not-are_plain.ensures)
