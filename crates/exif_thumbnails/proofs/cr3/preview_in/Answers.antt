use Rattle.std.proofs.Common.{◌≡◌, ℕ, ◌-◌, true, cond, List, length, take, drop, Some, None, ap, sym, ◌∙◌, arith, length-drop}
use Rattle.std.proofs.lemmas.List.{take_all}
use Rattle.byteorder.specs.Endian.{big_number}
use Rattle.exif_thumbnails.specs.Canon.{is_preview, preview_in}
use Rattle.exif_thumbnails.specs.Seen.{Shown, jpeg_within}
use Rattle.exif_thumbnails.proofs.cr3.preview_in.Goals as goal

-- the data of a preview, whose length was read
found_one : (held : List ℕ) (found : Shown) (len number : ℕ) → is_preview held ≡ true → found ≡ jpeg_within len (take (length held - 32) (drop 32 held)) → len ≡ number → number ≡ big_number 4 (drop 28 held)
    → Some found ≡ preview_in held
found_one held found len number is e l n =
    ap (λ t. Some t) (e ∙ ap (jpeg_within len) (take_all (length held - 32) (drop 32 held) (omega (arith, length-drop 32 held))) ∙ ap (λ k. jpeg_within k (drop 32 held)) (l ∙ n))
    ∙ sym (ap (λ t. cond t (Some (jpeg_within (big_number 4 (drop 28 held)) (drop 32 held))) None) is)

pub returns : goal.returns
returns c =
    found_one c.args.held.now _ c.from-len.result c.loadu32.result (sym c.if-not-is_preview.ensures.value) c.in_ok-jpeg_within.ensures c.from-len.ensures c.loadu32.ensures
