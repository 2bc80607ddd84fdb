use Rattle.std.proofs.Common.{◌≡◌, ◌≤◌, ℕ, List, length, codes, ap, sym, subst, ◌∙◌, arith}
use Rattle.exif_types.specs.Refusals.{Gives}
use Rattle.exif_blocks.specs.WebpBlocks.{file_put, resized}
use Rattle.exif_parts.specs.WebpChunks.{chunk_bytes}
use Rattle.exif_blocks.specs.declared.blocks.Block.TheVariants.{Profile}
use Rattle.exif_blocks.specs.declared.step.Place.TheVariants.{BehindFirst}
use Rattle.exif_blocks.proofs.Fits.{color_fits}
use Rattle.exif_blocks.proofs.webp.with_color.Goals as goal

pub returns : goal.returns
returns c =
    let file = c.args.file.now in
    let profile = c.args.profile.now in
    let space = c.args.space in
    let made : c.in_ok-new.new.items ≡ file_put Profile BehindFirst space (chunk_bytes (codes "ICCP") profile) file =
    c.in_ok-new.ensures ∙ ap (λ (p : List ℕ). file_put Profile BehindFirst space p file) (c.as_slice.ensures.value ∙ c.in_ok-chunk.ensures) in
    let small : length profile ≤ 4294967295 = omega arith in
    subst (λ a. Gives (λ v. v.items) c.resized.result a)
    (ap (λ (new : List ℕ). resized file 32 (codes "Colour profile too large") new) made ∙ sym (color_fits space profile file small))
    c.resized.ensures.made
