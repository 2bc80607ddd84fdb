-- Numbers read digit by digit, and texts cut at a byte.
use Rattle.std.proofs.Common.{◌≡◌, ◌<◌, ◌+◌, ◌==◌, ◌∙◌, ℕ, suc, true, false, List, [], ◌∷◌, ◌++◌, length, get_or, take, drop, drop-cons, take-suc, Some, None, if◌then◌else◌, refl, sym, ap, arith}
use Rattle.std.specs.Option.{option_and_then}
use Rattle.exif_datetime.specs.Numbers.{cut_behind, digits_below, next_below, number_below}

-- what is left, by its first element
pub rest_at : (xs : List ℕ) (i d : ℕ) → i < length xs → drop i xs ≡ get_or xs i d ∷ drop (i + 1) xs
rest_at xs i d h =
    let next : i + 1 ≡ suc i = omega arith in
    rw next (drop-cons xs i d h)

-- one more digit
pub one_more : (limit : ℕ) (digits : List ℕ) (i d number next : ℕ) → i < length digits
    → next_below limit number (get_or digits i d) ≡ Some next
    → digits_below limit (drop (i + 1) digits) next ≡ digits_below limit (drop i digits) number
one_more limit digits i d number next h e =
    sym (ap (λ ds. digits_below limit ds number) (rest_at digits i d h)
    ∙ ap (option_and_then (digits_below limit (drop (i + 1) digits))) e)

-- a byte that is no digit, or too many
pub no_more : (limit : ℕ) (digits : List ℕ) (i d number : ℕ) → i < length digits
    → next_below limit number (get_or digits i d) ≡ None
    → None ≡ digits_below limit (drop i digits) number
no_more limit digits i d number h e =
    sym (ap (λ ds. digits_below limit ds number) (rest_at digits i d h)
    ∙ ap (option_and_then (digits_below limit (drop (i + 1) digits))) e)

-- there are digits
pub some_digits : (limit : ℕ) (digits : List ℕ) → (length digits ≡ 0 → ⊥) → digits_below limit digits 0 ≡ number_below limit digits
some_digits limit [] h = absurd (h refl)
some_digits limit (digit ∷ digits) h = refl

-- the byte at which a text is cut
pub cut_here : (mark : ℕ) (text : List ℕ) (i d : ℕ) → i < length text → (get_or text i d == mark) ≡ true
    → cut_behind mark (take i text) (drop i text) ≡ Some (take i text, drop (i + 1) text)
cut_here mark text i d h e =
    ap (cut_behind mark (take i text)) (rest_at text i d h)
    ∙ ap (λ b. if b then Some (take i text, drop (i + 1) text) else cut_behind mark (take i text ++ get_or text i d ∷ []) (drop (i + 1) text)) e

-- another byte
pub cut_later : (mark : ℕ) (text : List ℕ) (i d : ℕ) → i < length text → (get_or text i d == mark) ≡ false
    → cut_behind mark (take (i + 1) text) (drop (i + 1) text) ≡ cut_behind mark (take i text) (drop i text)
cut_later mark text i d h e =
    let next : i + 1 ≡ suc i = omega arith in
    let one : take (i + 1) text ≡ take i text ++ get_or text i d ∷ [] = rw next (take-suc text i d h) in
    sym (ap (cut_behind mark (take i text)) (rest_at text i d h)
    ∙ (ap (λ b. if b then Some (take i text, drop (i + 1) text) else cut_behind mark (take i text ++ get_or text i d ∷ []) (drop (i + 1) text)) e
    ∙ ap (λ before. cut_behind mark before (drop (i + 1) text)) (sym one)))
