-- Steps along texts.
use Rattle.std.proofs.Common.{◌≡◌, ℕ, ◌+◌, ◌-◌, ◌<◌, ◌≤◌, ◌==◌, ◌&&◌, Bool, true, false, cond, List, [], ◌∷◌, ◌++◌, length, take, map, get_or, ap, sym, refl, ◌∙◌, arith, append-nil, IfOk, Result, Ok, Err}
use Rattle.std.proofs.lemmas.List.{map-append, take_more}
use Rattle.std.proofs.lemmas.Bool.Decides.{nat_tests}
use Rattle.std.proofs.lemmas.Str.{encodes-append}
use Rattle.std.proofs.Math.Utf8.{encode, encodes}
use Rattle.exif_iptc.specs.Datasets.{all_zero}
use Rattle.exif_iptc.specs.Texts.{latin_char, without_zeros}

-- one more character of a text
pub one_more_char : (bs : List ℕ) (i : ℕ) (done : List ℕ) → i < length bs → done ≡ encodes (map latin_char (take i bs))
    → done ++ encode (latin_char (get_or bs i 0)) ≡ encodes (map latin_char (take (i + 1) bs))
one_more_char bs i done h e =
    let c = latin_char (get_or bs i 0) in
    let front = map latin_char (take i bs) in
    let more : take (i + 1) bs ≡ take i bs ++ get_or bs i 0 ∷ [] = take_more bs i 0 h in
    let parts : encodes (map latin_char (take (i + 1) bs)) ≡ encodes front ++ encodes (c ∷ []) =
    ap (λ xs. encodes (map latin_char xs)) more ∙ (ap encodes (map-append latin_char (take i bs) (get_or bs i 0 ∷ [])) ∙ encodes-append front (c ∷ [])) in
    let last : encodes (c ∷ []) ≡ encode c = append-nil (encode c) in
    ap (λ xs. xs ++ encode c) e ∙ (ap (λ xs. encodes front ++ xs) (sym last) ∙ sym parts)

-- zeros with one more byte
all_zero-snoc : (bs : List ℕ) (b : ℕ) → all_zero (bs ++ b ∷ []) ≡ (all_zero bs && (b == 0))
all_zero-snoc [] b = and_true (b == 0)
  where
    and_true : (x : Bool) → (x && true) ≡ x
    and_true true = refl
    and_true false = refl
all_zero-snoc (a ∷ bs) b = and_step (a == 0) _ _ _ (all_zero-snoc bs b)
  where
    and_step : (x y z w : Bool) → y ≡ (z && w) → (x && y) ≡ ((x && z) && w)
    and_step true y z w e = e
    and_step false y z w e = refl

-- a zero at the end is no part of a text
pub zero_dropped : (bs : List ℕ) → without_zeros (bs ++ 0 ∷ []) ≡ without_zeros bs
zero_dropped [] = refl
zero_dropped (a ∷ bs) =
    let e : all_zero (a ∷ bs ++ 0 ∷ []) ≡ all_zero (a ∷ bs) = all_zero-snoc (a ∷ bs) 0 ∙ and_true (all_zero (a ∷ bs)) in
    ap (λ b. cond b [] (a ∷ without_zeros (bs ++ 0 ∷ []))) e ∙ ap (λ xs. cond (all_zero (a ∷ bs)) [] (a ∷ xs)) (zero_dropped bs)
  where
    and_true : (x : Bool) → (x && true) ≡ x
    and_true true = refl
    and_true false = refl

-- another byte at the end stays
pub other_kept : (bs : List ℕ) (b : ℕ) → (b == 0) ≡ false → without_zeros (bs ++ b ∷ []) ≡ bs ++ b ∷ []
other_kept [] b h = ap (λ (x : Bool). cond (x && true) [] (b ∷ [])) h
other_kept (a ∷ bs) b h =
    let e : all_zero (a ∷ bs ++ b ∷ []) ≡ false = all_zero-snoc (a ∷ bs) b ∙ (ap (λ x. all_zero (a ∷ bs) && x) h ∙ and_false (all_zero (a ∷ bs))) in
    ap (λ x. cond x [] (a ∷ without_zeros (bs ++ b ∷ []))) e ∙ ap (λ xs. a ∷ xs) (other_kept bs b h)
  where
    and_false : (x : Bool) → (x && false) ≡ false
    and_false true = refl
    and_false false = refl

last_byte : (bs : List ℕ) (n : ℕ) → 0 < n → n ≤ length bs → take n bs ≡ take (n - 1) bs ++ get_or bs (n - 1) 0 ∷ []
last_byte bs n some h =
    let e : n ≡ (n - 1) + 1 = omega arith in
    let l : n - 1 < length bs = omega arith in
    ap (λ k. take k bs) e ∙ take_more bs (n - 1) 0 l

pub zero_before : (bs : List ℕ) (n : ℕ) → 0 < n → n ≤ length bs → get_or bs (n - 1) 0 ≡ 0 → without_zeros (take n bs) ≡ without_zeros (take (n - 1) bs)
zero_before bs n some h z = ap without_zeros (last_byte bs n some h ∙ ap (λ b. take (n - 1) bs ++ b ∷ []) z) ∙ zero_dropped (take (n - 1) bs)

not_zero : (b : ℕ) → (b ≡ 0 → ⊥) → (b == 0) ≡ false
not_zero b h = grind (arith, nat_tests)

pub other_before : (bs : List ℕ) (n : ℕ) → 0 < n → n ≤ length bs → (get_or bs (n - 1) 0 ≡ 0 → ⊥) → without_zeros (take n bs) ≡ take n bs
other_before bs n some h z =
    let l = last_byte bs n some h in
    ap without_zeros l ∙ (other_kept (take (n - 1) bs) (get_or bs (n - 1) 0) (not_zero (get_or bs (n - 1) 0) z) ∙ sym l)

-- a text is the same as another one
pub text_is : {T E : Type 0} (bytes : T → List ℕ) (r : Result T E) (x y : List ℕ) → x ≡ y → IfOk r (λ t. bytes t ≡ x) → IfOk r (λ t. bytes t ≡ y)
text_is bytes (Ok t) x y e h = h ∙ e
text_is bytes (Err f) x y e h = tt
