-- Whether a JPEG stream has a second block of Exif data.
use Rattle.std.proofs.Common.{◌≡◌, ◌∙◌, ◌-◌, ◌^◌, ℕ, Bool, true, false, List, [], ◌∷◌, ◌++◌, take, drop, Option, Some, None, Result, Ok, Err, refl, sym, ap, subst}
use Rattle.std.specs.Prelude.{IfOk, IfSome, MatchOption, is_some}
use Rattle.std.specs.Io.KnownBytes.{prepend_known}
use Rattle.std.proofs.lemmas.Bool.{false≢true}
use Rattle.exif_base.specs.Told.{WhereTold}
use Rattle.exif_types.specs.Failures.{Failure}
use Rattle.exif_types.specs.Refusals.{Fails, IsInterrupted, Refusal, refusal_of}
use Rattle.exif_segments.specs.Answer.{Answer, found}
use Rattle.exif_segments.specs.Jpeg.{jpeg_answer}
use Rattle.exif_setting.specs.Second.{found_behind, is_found, second_in_jpeg}

-- a refusal finds nothing
none_found : (e : Failure) (a : Answer) → is_some (refusal_of e) ≡ true → Fails e a
    → is_found a ≡ false
none_found e a h f = by_refusal (refusal_of e) h f
  where
    by_refusal : (o : Option Refusal) → is_some o ≡ true
        → MatchOption o (IsInterrupted e) (λ r. a ≡ Err r) → is_found a ≡ false
    by_refusal None h f = absurd (false≢true h)
    by_refusal (Some r) h f = ap is_found f

-- bytes that are read as a stream behind its first two
module _ (hand : List ℕ) (known left : Option (List ℕ)) (two : hand ≡ 255 ∷ 216 ∷ [])
    (same : known ≡ left) where
  pub second_found : (v : List ℕ) (after : Option (List ℕ))
      → WhereTold (prepend_known hand known) after
      (λ xs ys. (rest : List ℕ) × (jpeg_answer (take (2 ^ 64 - 1) xs) ≡ found v rest)
      × (ys ≡ rest ++ drop (2 ^ 64 - 1) xs))
      → IfSome left (λ rest. true ≡ found_behind rest)
  second_found v after h = subst (λ o. IfSome o (λ rest. true ≡ found_behind rest)) same
      (by_known known after h)
    where
      by_known : (known after : Option (List ℕ)) → WhereTold (prepend_known hand known) after
          (λ xs ys. (rest : List ℕ) × (jpeg_answer (take (2 ^ 64 - 1) xs) ≡ found v rest)
          × (ys ≡ rest ++ drop (2 ^ 64 - 1) xs))
          → IfSome known (λ rest. true ≡ found_behind rest)
      by_known None after h = tt
      by_known (Some rest) None h = absurd h
      by_known (Some rest) (Some ys) h =
          sym (ap (λ xs. is_found (jpeg_answer (take (2 ^ 64 - 1) (xs ++ rest)))) (sym two)
          ∙ ap is_found h.1)

  pub second_refused : {E : Type 0} (e : Failure) (answer : Result Bool E)
      → IfOk answer (λ has. has ≡ false) → IfOk answer (λ has. is_some (refusal_of e) ≡ true)
      → IfSome (prepend_known hand known) (λ xs. Fails e (jpeg_answer (take (2 ^ 64 - 1) xs)))
      → IfOk answer (λ has. IfSome left (λ rest. has ≡ found_behind rest))
  second_refused e (Err u) none some h = tt
  second_refused e (Ok has) none some h =
      subst (λ o. IfSome o (λ rest. has ≡ found_behind rest)) same (by_known known h)
    where
      by_known : (known : Option (List ℕ))
          → IfSome (prepend_known hand known) (λ xs. Fails e (jpeg_answer (take (2 ^ 64 - 1) xs)))
          → IfSome known (λ rest. has ≡ found_behind rest)
      by_known None h = tt
      by_known (Some rest) h =
          none ∙ sym (ap (λ xs. is_found (jpeg_answer (take (2 ^ 64 - 1) (xs ++ rest)))) (sym two)
          ∙ none_found e (jpeg_answer (take (2 ^ 64 - 1) (hand ++ rest))) some h)

-- what a stream has behind its first Exif data
pub behind_first : {E : Type 0} (seen file v after : List ℕ) (answer : Result Bool E)
    → seen ≡ file → WhereTold (Some seen) (Some after)
    (λ xs ys. (rest : List ℕ) × (jpeg_answer (take (2 ^ 64 - 1) xs) ≡ found v rest)
    × (ys ≡ rest ++ drop (2 ^ 64 - 1) xs))
    → IfOk answer (λ has. has ≡ found_behind after)
    → IfOk answer (λ has. has ≡ second_in_jpeg file)
behind_first seen file v after (Err e) same h k = tt
behind_first seen file v after (Ok has) same h k =
    k ∙ (ap found_behind h.2
    ∙ (sym (ap (λ (a : Answer). elim a as (λ _. Bool) [ Ok found ↦ found_behind (found.1 ++ drop (2 ^ 64 - 1) seen) | Err refusal ↦ false ]) h.1)
    ∙ ap second_in_jpeg same))

pub none_in : {E : Type 0} (seen file : List ℕ) (e : Failure) (answer : Result Bool E)
    → seen ≡ file → IfOk answer (λ has. has ≡ false) → IfOk answer (λ has. is_some (refusal_of e) ≡ true)
    → Fails e (jpeg_answer (take (2 ^ 64 - 1) seen))
    → IfOk answer (λ has. has ≡ second_in_jpeg file)
none_in seen file e (Err u) same none some h = tt
none_in seen file e (Ok has) same none some h =
    none ∙ (by_answer (jpeg_answer (take (2 ^ 64 - 1) seen))
    (none_found e (jpeg_answer (take (2 ^ 64 - 1) seen)) some h) ∙ ap second_in_jpeg same)
  where
    by_answer : (a : Answer) → is_found a ≡ false
        → false ≡ (elim a as (λ _. Bool) [ Ok found ↦ found_behind (found.1 ++ drop (2 ^ 64 - 1) seen) | Err refusal ↦ false ])
    by_answer (Ok found) n = absurd (false≢true (sym n))
    by_answer (Err r) n = refl
