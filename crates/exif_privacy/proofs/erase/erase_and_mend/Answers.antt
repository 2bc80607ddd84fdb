use Rattle.std.proofs.Common.{◌≡◌, true, List, ℕ, ap, sym, subst, ◌∙◌, arith}
use Rattle.std.proofs.lemmas.Grind.{common_steps}
use Rattle.exif_containers.specs.Png.{begins_png}
use Rattle.exif_privacy.specs.Chunks.{parts_mended}
use Rattle.exif_privacy.specs.Promises.{AllElseStays}
use Rattle.exif_privacy.proofs.CrcSteps.{of_mended, of_others}
use Rattle.exif_privacy.proofs.erase.erase_and_mend.Goals as goal

pub returns-then-not-is_png-clause-others : goal.returns-then-not-is_png-clause-others
returns-then-not-is_png-clause-others c =
    of_others c.args.parts.now c.args.file.now c.erase_parts.new.file c.erase_parts.ensures.others

pub returns-clause-others : goal.returns-clause-others
returns-clause-others c =
    let file = c.args.file.now in
    let parts = c.args.parts.now in
    let erased = c.erase_parts-erased.new.file in
    let png : begins_png file ≡ true = grind (arith, common_steps) in
    let same : c.as_slice.result.now ≡ file = c.as_slice.ensures.value ∙ c.in_ok-old.ensures.items in
    let made : c.mend_parts.new.new ≡ parts_mended file parts erased =
    c.mend_parts.ensures ∙ ap (λ (old : List ℕ). parts_mended old parts erased) same in
    subst (λ (new : List ℕ). AllElseStays parts file new) (sym made)
    (of_mended parts file erased png c.erase_parts-erased.ensures.others)
