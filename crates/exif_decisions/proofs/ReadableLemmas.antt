-- How a name that is no UTF-8 is read on: its front, the byte behind it, and what follows.
use Rattle.std.proofs.Common.{◌≡◌, ◌∙◌, ◌≤◌, ℕ, zero, suc, List, [], ◌∷◌, ◌++◌, ap, append-nil, append_assoc, arith, drop, eq-eqb, length, refl, sym, take}
use Rattle.std.proofs.Common.{⊎_elim, ne_eqb}
use Rattle.std.proofs.lemmas.Bool.{cases_eq}
use Rattle.std.proofs.lemmas.List.{drop_all, length-drop, take_all}
use Rattle.std.proofs.lemmas.Str.{utf8_valid_len-IsUtf8}
use Rattle.std.specs.Str.{IsUtf8}
use Rattle.std.specs.Str.Lossy.{utf8_valid_len}
use Rattle.exif_decisions.specs.Escaping.{marked_first, readable, readable_within}

-- what is behind the longest front that is UTF-8
abbrev behind : List ℕ → List ℕ
behind name = drop (utf8_valid_len name) name

within_whole : (k : ℕ) (name : List ℕ) → length (behind name) ≡ 0 → readable_within k name ≡ name
within_whole zero name whole = refl
within_whole (suc k) name whole = rw (eq-eqb _ _ whole)

within_step : (k : ℕ) (name : List ℕ) → (length (behind name) ≡ 0 → ⊥)
    → readable_within (suc k) name
    ≡ take (utf8_valid_len name) name ++ (marked_first (behind name) ++ readable_within k (drop 1 (behind name)))
within_step k name more = rw (ne_eqb _ _ more)

-- any bound from the length up gives the same text
within_any : (k j : ℕ) (name : List ℕ) → length name ≤ k → length name ≤ j → readable_within k name ≡ readable_within j name
within_any zero j name p q = sym (within_whole j name (omega (arith, length-drop (utf8_valid_len name) name)))
within_any (suc k) zero name p q = within_whole (suc k) name (omega (arith, length-drop (utf8_valid_len name) name))
within_any (suc k) (suc j) name p q =
    let rest = drop 1 (behind name) in
    let len : length (behind name) ≤ length name = omega (arith, length-drop (utf8_valid_len name) name) in
    ⊎_elim
    (λ whole. within_whole (suc k) name whole ∙ sym (within_whole (suc j) name whole))
    (λ more.
    within_step k name more
    ∙ ap (λ t. take (utf8_valid_len name) name ++ (marked_first (behind name) ++ t)) (within_any k j rest (omega (arith, length-drop 1 (behind name))) (omega (arith, length-drop 1 (behind name))))
    ∙ sym (within_step j name more))
    (cases_eq (length (behind name)) 0)

readable_nil : readable [] ≡ []
unfolding readable
readable_nil = refl

-- the front, the byte behind it, and the text of what follows
readable_step : (name : List ℕ)
    → readable name ≡ take (utf8_valid_len name) name ++ (marked_first (behind name) ++ readable (drop 1 (behind name)))
unfolding readable
readable_step name =
    let n = utf8_valid_len name in
    let rest = drop 1 (behind name) in
    let len : length (behind name) ≤ length name = omega (arith, length-drop n name) in
    ⊎_elim
    (λ whole.
    let short : length name ≤ n = omega (arith, length-drop n name) in
    let none : behind name ≡ [] = drop_all n name short in
    within_whole (length name) name whole
    ∙ sym (take_all n name short) ∙ sym (append-nil (take n name))
    ∙ ap (λ t. take n name ++ (marked_first t ++ readable_within (length (drop 1 t)) (drop 1 t))) (sym none))
    (λ more.
    within_any (length name) (suc (length name)) name (omega arith) (omega arith)
    ∙ within_step (length name) name more
    ∙ ap (λ t. take n name ++ (marked_first (behind name) ++ t)) (within_any (length name) (length rest) rest (omega (arith, length-drop 1 (behind name))) (omega arith)))
    (cases_eq (length (behind name)) 0)

-- a text stays as it is
pub readable_utf8 : (name : List ℕ) → IsUtf8 name → readable name ≡ name
unfolding readable
readable_utf8 name utf8 =
    within_whole (length name) name (omega (arith, length-drop (utf8_valid_len name) name, utf8_valid_len-IsUtf8 name utf8))

-- one more front, and the byte behind it
pub one_front : (text rest name front left : List ℕ) → front ≡ take (utf8_valid_len rest) rest
    → left ≡ drop (utf8_valid_len rest) rest → text ++ readable rest ≡ readable name
    → ((text ++ front) ++ marked_first left) ++ readable (drop 1 left) ≡ readable name
one_front text rest name front left is_front is_left so_far =
    rw (is_front, is_left) (simp append_assoc (ap (λ t. text ++ t) (sym (readable_step rest)) ∙ so_far))

-- behind the last byte all is written
pub all_read : (text rest name : List ℕ) → length rest ≡ 0 → text ++ readable rest ≡ readable name → text ≡ readable name
all_read text [] name none so_far = sym (append-nil text) ∙ ap (λ t. text ++ t) (sym readable_nil) ∙ so_far
all_read text (x ∷ rest) name none so_far = absurd (omega arith)
