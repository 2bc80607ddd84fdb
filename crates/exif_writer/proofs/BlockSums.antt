-- Sizes of blocks added up, and where they end.
use Rattle.std.proofs.Common.{◌≡◌, ℕ, zero, suc, ◌+◌, ◌*◌, ◌<◌, ◌≤◌, List, [], ◌∷◌, length, take, get_or, refl, ap, ◌∙◌, arith}
use denote.Ref.{Bor}
use Rattle.exif_layout.specs.Offsets.{after_blocks, offsets_from}
use Rattle.exif_layout.specs.Views.{blocks_of}
use Rattle.exif_writer.specs.Sending.{sum_of}
use Rattle.exif_layout.specs.EntryContents.{lens}
use Rattle.exif_writer.proofs.SendRunning.{up_to, sum_append}

-- a product is no less than its second factor
pub count_low : (unit count : ℕ) → 1 ≤ unit → count ≤ unit * count
count_low zero count h = absurd (omega arith)
count_low (suc n) count h = omega arith

-- where blocks end
pub end_is_sum : (offset : ℕ) (texts : List (Bor (List ℕ))) → after_blocks offset (blocks_of texts) ≡ offset + sum_of texts
end_is_sum offset [] = omega arith
end_is_sum offset (text ∷ texts) = let e = end_is_sum (offset + length text.now) texts in omega arith

-- one more block adds its length to the sum of those before it
pub sum_more : (texts : List (Bor (List ℕ))) (i : ℕ) (x d : Bor (List ℕ)) → i < length texts → x ≡ get_or texts i d
    → sum_of (take (i + 1) texts) ≡ sum_of (take i texts) + length x.now
sum_more texts i x d h e =
    let k : sum_of (take (i + 1) texts) ≡ sum_of (take i texts) + (length x.now + 0) = ap sum_of (up_to texts i x d h e) ∙ sum_append (take i texts) (x ∷ []) in
    omega arith

-- there are as many offsets of blocks as there are blocks
pub offsets_length : (offset : ℕ) (texts : List (Bor (List ℕ))) → length (offsets_from offset (lens texts)) ≡ length texts
offsets_length offset [] = refl
offsets_length offset (t ∷ texts) = ap suc (offsets_length (offset + length t.now) texts)

-- there are as many lengths of blocks as there are blocks
pub lens_length : (texts : List (Bor (List ℕ))) → length (lens texts) ≡ length texts
lens_length [] = refl
lens_length (t ∷ texts) = ap suc (lens_length texts)
