use Rattle.std.proofs.Common.{◌∙◌, ◌++◌, ap, refl}
use Rattle.exif_types.specs.TagTexts.{tag_text}
use Rattle.exif_columns.proofs.CellSteps.{adds_one}
use Rattle.exif_columns.proofs.rows.push_name.Goals as goal

pub returns : goal.returns
returns c =
    let name = c.as_bytes.ensures.value ∙ (c.in_ok-push_shown.ensures (tag_text c.args.tag) refl ∙ ap (λ front. front ++ tag_text c.args.tag) c.new-text.ensures.bytes) in
    adds_one c.push_field.result c.args.cells.now c.push_field.new.self c.as_bytes.result.now (tag_text c.args.tag) name c.push_field.ensures.fields c.push_field.ensures.partial
