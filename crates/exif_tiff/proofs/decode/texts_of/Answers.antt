use Rattle.std.proofs.Common.{◌∙◌, ◌≡◌, ap, subst}
use Rattle.std.specs.Prelude.{IfOk}
use Rattle.exif_types.specs.Texts.{texts}
use Rattle.exif_tiff.proofs.DecodeLemmas.{split, texts_ended, texts_full}
use Rattle.exif_tiff.proofs.decode.texts_of.Goals as goal
use Rattle.exif_tiff.proofs.decode.texts_of.Goals.{then-last-eq0, else-last-eq0}

pub returns : goal.returns
returns c =
    let is = c.in-Some.ensures.cases.0 in
    let found : split c.if-last-eq0.ended.now ≡ texts c.args.bytes.now =
    elim c.if-last-eq0.branch [
      | then-last-eq0 w ↦ ap (λ b. split b.now) w.ended-is ∙ texts_ended _ _ _ is w.if-last-eq0.true
      | else-last-eq0 w ↦ ap (λ b. split b.now) w.ended-is ∙ texts_full _ _ _ is w.if-last-eq0.false
    ] in
    subst (λ ts. IfOk c.parts_of.result (λ parts. parts ≡ ts)) found c.parts_of.ensures
