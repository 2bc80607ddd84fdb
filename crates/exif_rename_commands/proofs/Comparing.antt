-- What the blocks of two sources say of them.
use Rattle.std.proofs.Common.{◌≡◌, ◌∙◌, ℕ, ◌+◌, ◌<◌, ◌≤◌, List, [], ◌++◌, Bool, true, false, Option, Some, None, ap, arith, length, refl, sym, take}
use Rattle.std.specs.Prelude.{if◌then◌else◌, ◌&&◌, nat_lt}
use Rattle.std.specs.Io.KnownBytes.{Consumes, IsAtEnd}
use Rattle.std.specs.Str.{bytes_eq}
use Rattle.std.proofs.lemmas.Bool.{false_from_ne_true}
use Rattle.std.proofs.lemmas.Bool.Decides.{Decides-ltb}
use Rattle.std.proofs.lemmas.List.{append_cancel_left, length-append, length-take-le}
use Rattle.std.proofs.Math.Seq.{take-append_seam}
use Rattle.std.proofs.lemmas.Slice.Eq.{bytes_eq-Decides}
use Rattle.exif_rename_commands.specs.Same.{IsAnswer, IsSameQuestion, IsStep, known_by}

-- where one is not known, nothing is said
any_step : (known : Option Bool) (b left right : Option (List ℕ)) → IsStep known None b left right
any_step (Some same) b left right = tt
any_step None b left right = tt

any_step_right : (known : Option Bool) (xs : List ℕ) (left right : Option (List ℕ)) → IsStep known (Some xs) None left right
any_step_right (Some same) xs left right = tt
any_step_right None xs left right = tt

-- both are known: by whether the blocks are the same, and whether they are the last
step_by : (same is_last : Bool) (xs ys zs ws : List ℕ) → (same ≡ false → bytes_eq xs ys ≡ false)
    → (same ≡ true → bytes_eq xs ys ≡ bytes_eq zs ws) → (same ≡ true → is_last ≡ true → bytes_eq xs ys ≡ true)
    → IsStep (if same then (if is_last then Some true else None) else Some false) (Some xs) (Some ys) (Some zs) (Some ws)
step_by false is_last xs ys zs ws apart rest last = sym (apart refl)
step_by true true xs ys zs ws apart rest last = sym (last refl refl)
step_by true false xs ys zs ws apart rest last = rest refl

-- tests of the same are the same
same_tests : (a b : Bool) → (a ≡ true → b ≡ true) → (b ≡ true → a ≡ true) → a ≡ b
same_tests true true there back = refl
same_tests true false there back = sym (there refl)
same_tests false true there back = back refl
same_tests false false there back = refl

left_true : (a b : Bool) → a && b ≡ true → a ≡ true
left_true true b e = refl
left_true false b e = e

right_true : (a b : Bool) → a && b ≡ true → b ≡ true
right_true true b e = e
right_true false true e = refl
right_true false false e = e

-- the lengths of blocks of the same bytes, where what follows a shorter one is nothing
same_lengths : (n m z w size : ℕ) → n ≤ size → m ≤ size → (n < size → z ≡ 0) → (m < size → w ≡ 0) → n + z ≡ m + w → n ≡ m
same_lengths n m z w size a b c d e = grind arith

same_blocks : (f g zs ws : List ℕ) (size : ℕ) → length f ≤ size → length g ≤ size → (length f < size → zs ≡ []) → (length g < size → ws ≡ [])
    → f ++ zs ≡ g ++ ws → f ≡ g
same_blocks f g zs ws size a b c d e =
    let total : length f + length zs ≡ length g + length ws = sym (length-append f zs) ∙ ap length e ∙ length-append g ws in
    let same : length f ≡ length g =
    same_lengths (length f) (length g) (length zs) (length ws) size a b (λ h. ap length (c h)) (λ h. ap length (d h)) total in
    sym (take-append_seam f zs) ∙ ap (take (length f)) e ∙ ap (λ n. take n (g ++ ws)) same ∙ take-append_seam g ws

-- the same with all that is known
both : (f g xs ys zs ws : List ℕ) (size : ℕ) (is_last : Bool) → length f ≤ size → length g ≤ size
    → (length f < size → zs ≡ []) → (length g < size → ws ≡ []) → xs ≡ f ++ zs → ys ≡ g ++ ws
    → (is_last ≡ true → (zs ≡ []) × (ws ≡ [])) → IsStep (known_by f g is_last) (Some xs) (Some ys) (Some zs) (Some ws)
both f g xs ys zs ws size is_last a b c d is_left is_right ends =
    let fronts : bytes_eq f g ≡ true → f ≡ g = (bytes_eq-Decides f g).0 in
    let back : f ≡ g → zs ≡ ws → xs ≡ ys = λ e r. is_left ∙ ap (λ t. t ++ zs) e ∙ ap (λ t. g ++ t) r ∙ sym is_right in
    let there : xs ≡ ys → f ≡ g = λ e. same_blocks f g zs ws size a b c d (sym is_left ∙ e ∙ is_right) in
    let rest : f ≡ g → xs ≡ ys → zs ≡ ws = λ e r. append_cancel_left g zs ws (ap (λ t. t ++ zs) (sym e) ∙ sym is_left ∙ r ∙ is_right) in
    step_by (bytes_eq f g) is_last xs ys zs ws
    (λ off. false_from_ne_true (bytes_eq xs ys) (λ on_. let same : bytes_eq f g ≡ true = (bytes_eq-Decides f g).1 (there ((bytes_eq-Decides xs ys).0 on_)) in cc))
    (λ on_. same_tests (bytes_eq xs ys) (bytes_eq zs ws)
    (λ e. (bytes_eq-Decides zs ws).1 (rest (fronts on_) ((bytes_eq-Decides xs ys).0 e)))
    (λ e. (bytes_eq-Decides xs ys).1 (back (fronts on_) ((bytes_eq-Decides zs ws).0 e))))
    (λ on_ last. (bytes_eq-Decides xs ys).1 (back (fronts on_) ((ends last).0 ∙ sym (ends last).1)))

-- the next blocks of two sources, of which so many bytes were read
pub next_step : (a b left' right' : Option (List ℕ)) (left right : List ℕ) (n m : ℕ) → length left ≡ length right → n ≤ length left → m ≤ length right
    → Consumes a left' (take n left) → Consumes b right' (take m right) → (n < length left → IsAtEnd left') → (m < length right → IsAtEnd right')
    → IsStep (known_by (take n left) (take m right) (nat_lt n (length left) && nat_lt m (length right))) a b left' right'
next_step None b left' right' left right n m same i j c d e f = any_step _ b left' right'
next_step (Some xs) None left' right' left right n m same i j c d e f = any_step_right _ xs left' right'
next_step (Some xs) (Some ys) None right' left right n m same i j c d e f = absurd c
next_step (Some xs) (Some ys) (Some zs) None left right n m same i j c d e f = absurd d
next_step (Some xs) (Some ys) (Some zs) (Some ws) left right n m same i j c d e f =
    let long : length (take n left) ≡ n = length-take-le n left i in
    let wide : length (take m right) ≡ m = length-take-le m right j in
    let lesser : length (take n left) < length left → n < length left = λ h. omega (arith, long, h) in
    let fewer : length (take m right) < length left → m < length right = λ h. omega (arith, wide, same, h) in
    both (take n left) (take m right) xs ys zs ws (length left) (nat_lt n (length left) && nat_lt m (length right))
    (omega (arith, long)) (omega (arith, wide, same)) (λ h. e (lesser h)) (λ h. f (fewer h)) c d
    (λ last. (e ((Decides-ltb n (length left)).0 (left_true _ _ last)), f ((Decides-ltb m (length right)).0 (right_true _ _ last))))

-- ---- one block after the other

pub same_question : (a b : Option (List ℕ)) → IsSameQuestion a b a b
same_question None b = tt
same_question (Some xs) None = tt
same_question (Some xs) (Some ys) = refl

pub same_after : (a b c d e f : Option (List ℕ)) → IsSameQuestion a b c d → IsSameQuestion c d e f → IsSameQuestion a b e f
same_after None b c d e f one two = tt
same_after (Some xs) None c d e f one two = tt
same_after (Some xs) (Some ys) None d e f one two = absurd one
same_after (Some xs) (Some ys) (Some zs) None e f one two = absurd one
same_after (Some xs) (Some ys) (Some zs) (Some ws) None f one two = absurd two
same_after (Some xs) (Some ys) (Some zs) (Some ws) (Some us) None one two = absurd two
same_after (Some xs) (Some ys) (Some zs) (Some ws) (Some us) (Some vs) one two = one ∙ two

pub answer_after : (a b c d : Option (List ℕ)) (same : Bool) → IsSameQuestion a b c d → IsAnswer c d same → IsAnswer a b same
answer_after None b c d same one two = tt
answer_after (Some xs) None c d same one two = tt
answer_after (Some xs) (Some ys) None d same one two = absurd one
answer_after (Some xs) (Some ys) (Some zs) None same one two = absurd one
answer_after (Some xs) (Some ys) (Some zs) (Some ws) same one two = two ∙ sym one
