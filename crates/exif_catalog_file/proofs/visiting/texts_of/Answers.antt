use Rattle.std.proofs.Common.{◌∙◌, ◌<◌, ◌∷◌, [], ap, sym, subst, arith, length, take, ◌+◌}
use Rattle.std.proofs.lemmas.List.{map-append}
use Rattle.std.specs.Prelude.{map, option_map, string_bytes}
use Rattle.exif_catalog_file.specs.Shown.{AllOf, IsShown}
use Rattle.exif_catalog_file.proofs.Rowwise.{all_more, shown_column}
use Rattle.exif_catalog_file.proofs.visiting.texts_of.Goals as goal

pub loop-i-preserved : goal.loop-i-preserved
loop-i-preserved c =
    let within : c.loop-i.i < length c.args.row.now = omega arith in
    let row = c.args.row.now in
    let shown = shown_column row c.loop-i.i _ _ c.in_ok-get_ref.ensures.ok.1 c.in_ok-text_of_value.ensures in
    let more = all_more IsShown row c.loop-i.i _ _ within c.loop-i.invariant shown in
    subst (λ texts. AllOf IsShown (take (c.loop-i.i + 1) row) texts)
    (sym (ap (map (option_map string_bytes)) c.in_ok-push.ensures.items
    ∙ map-append (option_map string_bytes) c.loop-i.texts.items (c.in_ok-text_of_value.field-0 ∷ []))) more
