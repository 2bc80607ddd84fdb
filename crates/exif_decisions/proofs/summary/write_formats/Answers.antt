use Rattle.std.proofs.Common.{◌≡◌, ◌∙◌, false, refl, rules, sym, true}
use Rattle.std.proofs.Output.{has_written_append, has_written_of_eq}
use Rattle.exif_decisions.proofs.SummaryLemmas.{no_formats_text, some_formats_text}
use Rattle.exif_decisions.proofs.summary.write_formats.Goals as goal

pub returns-then-not-has_some : goal.returns-then-not-has_some
returns-then-not-has_some g c =
    let none : c.has_some.result ≡ false = cc in
    rw (no_formats_text c.args.formats.now (sym c.has_some.ensures ∙ none)) (search rules)

pub returns : goal.returns
returns g c plain ok =
    let some : c.has_some.result ≡ true = cc in
    let formats = c.in_ok-write_list.ensures plain (refl {a = true}) in
    let words = c.write_str.ensures.writes formats.plain ok in
    has_written_of_eq _ _ _ _ _ (some_formats_text c.args.formats.now (sym c.has_some.ensures ∙ some)) (has_written_append _ _ _ _ _ _ formats words)
