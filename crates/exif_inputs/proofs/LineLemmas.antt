-- The first characters of a value, one after another.
use Rattle.std.proofs.Common.{◌≡◌, ◌∙◌, ◌+◌, ◌-◌, ◌<◌, ◌≤◌, ℕ, zero, suc, List, [], ◌∷◌, ◌++◌, ap, append-nil, append_assoc, arith, drop, get_or, length, refl, sym, take, cond, false, ne_eqb}
use Rattle.std.specs.Prelude.{◌==◌}
use Rattle.std.proofs.lemmas.List.{drop_all, drop_more}
use Rattle.std.specs.Char.{encode_utf8}
use Rattle.std.specs.List.{flat_map}
use Rattle.exif_inputs.specs.Lines.{added}

-- the bytes of the first of characters
abbrev front : ℕ → List ℕ → List ℕ
front left cs = flat_map encode_utf8 (take left cs)

none_taken : (left : ℕ) → front left [] ≡ []
none_taken zero = refl
none_taken (suc left) = refl

-- one character, and those behind it
first_taken : (left c : ℕ) (cs : List ℕ) → added left c ++ front (left - 1) cs ≡ front left (c ∷ cs)
first_taken zero c cs =
    let less : zero - 1 ≡ zero = omega arith in
    ap (λ n. front n cs) less
first_taken (suc left) c cs =
    let less : suc left - 1 ≡ left = omega arith in
    let more : (suc left == 0) ≡ false = ne_eqb (suc left) 0 (λ e. absurd (omega arith)) in
    ap (λ b. cond b [] (encode_utf8 c) ++ front (suc left - 1) cs) more
    ∙ ap (λ n. encode_utf8 c ++ front n cs) less

-- one more of so many that are taken yet
pub one_taken : (text cs all : List ℕ) (k left c : ℕ) → k < length cs → c ≡ get_or cs k c
    → text ++ flat_map encode_utf8 (take left (drop k cs)) ≡ all
    → (text ++ added left c) ++ flat_map encode_utf8 (take (left - 1) (drop (k + 1) cs)) ≡ all
one_taken text cs all k left c within is so_far =
    let cut : drop k cs ≡ c ∷ drop (k + 1) cs = drop_more cs k c within ∙ ap (λ x. x ∷ drop (k + 1) cs) (sym is) in
    append_assoc text (added left c) (front (left - 1) (drop (k + 1) cs))
    ∙ ap (λ t. text ++ t) (first_taken left c (drop (k + 1) cs))
    ∙ ap (λ t. text ++ front left t) (sym cut) ∙ so_far

-- there are no more
pub no_more : (text cs all : List ℕ) (k left : ℕ) → length cs ≤ k
    → text ++ flat_map encode_utf8 (take left (drop k cs)) ≡ all → text ≡ all
no_more text cs all k left past so_far =
    let none : front left (drop k cs) ≡ [] = ap (front left) (drop_all k cs past) ∙ none_taken left in
    sym (append-nil text) ∙ ap (λ t. text ++ t) (sym none) ∙ so_far
