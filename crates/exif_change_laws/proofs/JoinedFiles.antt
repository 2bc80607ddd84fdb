-- Files that are the same in some ranges, and outside of them.
use Rattle.std.proofs.Common.{◌≡◌, ◌≤◌, ◌<◌, ◌+◌, ◌-◌, ℕ, Bool, true, false, List, [], ◌∷◌, ◌++◌, length, take, drop, get_or, All, inl, inr, refl, sym, ap, ◌∙◌, arith}
use Rattle.std.specs.Prelude.{nat_lt}
use Rattle.std.proofs.lemmas.Bool.Decides.{nat_tests}
use Rattle.std.proofs.lemmas.List.{ext_get_or, get_or-drop, get_or-take}
use Rattle.std.proofs.lemmas.List.Elements.{All-nil, All-cons, All-head, All-tail}
use Rattle.std.proofs.Math.Seq.{drop-append_seam, take-append_seam}
use Rattle.exif_isobmff.specs.Extents.{IsWhole, joined_bytes, range_bytes}
use Rattle.exif_isobmff.specs.declared.locations.Extent.{Extent}
use Rattle.exif_edit.specs.InFiles.{Avoids}

-- two lists that begin with lists of one length
seams : (a b c d : List ℕ) → length a ≡ length c → a ++ b ≡ c ++ d → (a ≡ c) × (b ≡ d)
seams a b c d l e = (
  sym (take-append_seam a b) ∙ (ap (take (length a)) e ∙ (ap (λ (n : ℕ). take n (c ++ d)) l ∙ take-append_seam c d)),
  sym (drop-append_seam a b) ∙ (ap (drop (length a)) e ∙ (ap (λ (n : ℕ). drop n (c ++ d)) l ∙ drop-append_seam c d)),
)

-- a byte of a range
in_range : (a : List ℕ) (e : Extent) (i : ℕ) → e.offset ≤ i → i < e.offset + e.len → get_or (range_bytes a e) (i - e.offset) 0 ≡ get_or a i 0
in_range a e i low high =
    let at : e.offset + (i - e.offset) ≡ i = omega (arith, low) in
    get_or-take e.len (drop e.offset a) (i - e.offset) 0 (omega (arith, low, high))
    ∙ (get_or-drop e.offset a (i - e.offset) 0 ∙ ap (λ (n : ℕ). get_or a n 0) at)

byte_same : (a b : List ℕ) (es : List Extent) (i : ℕ) → joined_bytes a es ≡ joined_bytes b es → All (IsWhole a) es → All (IsWhole b) es
    → (All (Avoids i) es → get_or a i 0 ≡ get_or b i 0) → get_or a i 0 ≡ get_or b i 0
byte_same a b [] i j v w k = k (All-nil (Avoids i))
byte_same a b (e ∷ es) i j v w k =
    let x = All-head (IsWhole a) e es v in
    let y = All-head (IsWhole b) e es w in
    let two = seams (range_bytes a e) (joined_bytes a es) (range_bytes b e) (joined_bytes b es) (x ∙ sym y) j in
    by_side two.0 (nat_lt i e.offset) (nat_lt i (e.offset + e.len)) refl refl
    (λ away. byte_same a b es i two.1 (All-tail (IsWhole a) e es v) (All-tail (IsWhole b) e es w) (λ m. k (All-cons (Avoids i) e es away m)))
  where
    by_side : range_bytes a e ≡ range_bytes b e → (s t : Bool) → nat_lt i e.offset ≡ s → nat_lt i (e.offset + e.len) ≡ t
        → (Avoids i e → get_or a i 0 ≡ get_or b i 0) → get_or a i 0 ≡ get_or b i 0
    by_side r true t p q rest = rest (inl (grind (arith, nat_tests, p)))
    by_side r false false p q rest = rest (inr (grind (arith, nat_tests, q)))
    by_side r false true p q rest =
        let low : e.offset ≤ i = grind (arith, nat_tests, p) in
        let high : i < e.offset + e.len = grind (arith, nat_tests, q) in
        sym (in_range a e i low high) ∙ (ap (λ (xs : List ℕ). get_or xs (i - e.offset) 0) r ∙ in_range b e i low high)

-- files as long, with the same bytes in ranges and outside of them
pub files_same : (a b : List ℕ) (es : List Extent) → length a ≡ length b → joined_bytes a es ≡ joined_bytes b es → All (IsWhole a) es → All (IsWhole b) es
    → ((i : ℕ) → All (Avoids i) es → get_or a i 0 ≡ get_or b i 0) → a ≡ b
files_same a b es l j v w k = ext_get_or 0 a b l (λ i h. byte_same a b es i j v w (k i))
