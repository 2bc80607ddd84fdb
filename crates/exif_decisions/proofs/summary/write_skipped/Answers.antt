use Rattle.std.proofs.Common.{◌≡◌, ◌∙◌, ◌||◌, arith, false, refl, sym, true}
use Rattle.std.proofs.lemmas.Grind.{common_steps}
use Rattle.std.proofs.Output.{has_written_append, has_written_of_eq}
use Rattle.exif_decisions.proofs.SummaryLemmas.{no_parts, skipped_alone, skipped_parts, skipped_whole}
use Rattle.exif_decisions.proofs.summary.write_skipped.Goals as goal

pub returns : goal.returns
returns g c plain ok =
    let number = c.in_ok-write.ensures.writes plain (refl {a = true}) in
    let open_ = c.in_ok-write_str.ensures.writes number.plain (refl {a = true}) in
    let formats = c.in_ok-write_formats.ensures open_.plain (refl {a = true}) in
    let between = c.in_ok-write_between.ensures formats.plain (refl {a = true}) in
    let things = c.in_ok-write_list.ensures between.plain (refl {a = true}) in
    let close = c.write_str-2.ensures.writes things.plain ok in
    let some : (c.has_some-has_formats.result || c.has_some-has_things.result) ≡ true = grind (arith, common_steps, c.else-not-has_formats.either) in
    let parts = skipped_parts _ _ _ _ _ _ c.format_amounts-formats.ensures c.things-things.ensures c.has_some-has_formats.ensures c.has_some-has_things.ensures some in
    has_written_of_eq _ _ _ _ _ (skipped_whole _ _ _ _ c.skipped-skipped.ensures parts) (has_written_append _ _ _ _ _ _ number (has_written_append _ _ _ _ _ _ open_ (has_written_append _ _ _ _ _ _ formats (has_written_append _ _ _ _ _ _ between (has_written_append _ _ _ _ _ _ things close)))))

pub returns-then-not-has_things : goal.returns-then-not-has_things
returns-then-not-has_things g c plain ok =
    let number = c.in_ok-write.ensures.writes plain (refl {a = true}) in
    let none_f : c.has_some-has_formats.result ≡ false = cc in
    let none_t : c.has_some-has_things.result ≡ false = cc in
    let none = no_parts _ _ _ _ c.format_amounts-formats.ensures c.things-things.ensures (sym c.has_some-has_formats.ensures ∙ none_f) (sym c.has_some-has_things.ensures ∙ none_t) in
    has_written_of_eq _ _ _ _ _ (skipped_alone _ _ _ c.skipped-skipped.ensures none) number
