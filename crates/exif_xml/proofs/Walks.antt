-- Walks, step by step, as a loop takes them.
use Rattle.std.proofs.Common.{◌≡◌, ℕ, zero, suc, ◌+◌, ◌-◌, ◌<◌, ◌≤◌, List, [], ◌∷◌, length, drop, true, false, eqb, Result, Ok, Err, ap, sym, ◌∙◌, arith}
use Rattle.std.proofs.lemmas.Bool.{eqb-true}
use Rattle.exif_xml.specs.Refusals.{◌>>=◌, Stepped, walk}

-- a walk is over where nothing is left
pub walk_ends : {S E : Type 0} (cut : ℕ → E) (step : ℕ → S → List ℕ → Result (Stepped S) E) (n offset : ℕ) (s : S) (rest : List ℕ) (total : Result S E) → length rest ≡ 0 → walk cut step n offset s rest ≡ total → total ≡ Ok s
unfolding walk
walk_ends cut step n offset s [] total h e = sym e
walk_ends cut step n offset s (b ∷ rest) total h e = absurd (omega arith)

left_over : (n i : ℕ) → i < n → n - i ≡ suc (n - (i + 1))
left_over n i h = omega arith

-- it goes on behind a step
pub walk_on : {S E : Type 0} (cut : ℕ → E) (step : ℕ → S → List ℕ → Result (Stepped S) E) (n i offset : ℕ) (s : S) (rest : List ℕ) (t : Stepped S) (total : Result S E) → i < n → 0 < length rest → step offset s rest ≡ Ok t
    → walk cut step (n - i) offset s rest ≡ total → walk cut step (n - (i + 1)) (offset + t.len) t.state (drop t.len rest) ≡ total
unfolding walk
walk_on cut step n i offset s [] t total h some e w = absurd (omega arith)
walk_on cut step n i offset s (b ∷ rest) t total h some e w =
    let one : walk cut step (suc (n - (i + 1))) offset s (b ∷ rest) ≡ walk cut step (n - (i + 1)) (offset + t.len) t.state (drop t.len (b ∷ rest)) = ap (λ r. r >>= λ t. walk cut step (n - (i + 1)) (offset + t.len) t.state (drop t.len (b ∷ rest))) e in
    sym one ∙ (ap (λ k. walk cut step k offset s (b ∷ rest)) (sym (left_over n i h)) ∙ w)

-- a step that is refused ends it
pub walk_faulty : {S E : Type 0} (cut : ℕ → E) (step : ℕ → S → List ℕ → Result (Stepped S) E) (n i offset : ℕ) (s : S) (rest : List ℕ) (r : E) (total : Result S E) → i < n → 0 < length rest → step offset s rest ≡ Err r
    → walk cut step (n - i) offset s rest ≡ total → total ≡ Err r
unfolding walk
walk_faulty cut step n i offset s [] r total h some e w = absurd (omega arith)
walk_faulty cut step n i offset s (b ∷ rest) r total h some e w =
    let one : walk cut step (suc (n - (i + 1))) offset s (b ∷ rest) ≡ Err r = ap (λ r. r >>= λ t. walk cut step (n - (i + 1)) (offset + t.len) t.state (drop t.len (b ∷ rest))) e in
    sym w ∙ (ap (λ k. walk cut step k offset s (b ∷ rest)) (left_over n i h) ∙ one)

-- a walk of no more steps is cut off
pub walk_over : {S E : Type 0} (cut : ℕ → E) (step : ℕ → S → List ℕ → Result (Stepped S) E) (n i offset : ℕ) (s : S) (rest : List ℕ) (total : Result S E) → n ≤ i → 0 < length rest → walk cut step (n - i) offset s rest ≡ total → total ≡ Err (cut offset)
unfolding walk
walk_over cut step n i offset s [] total h some w = absurd (omega arith)
walk_over cut step n i offset s (b ∷ rest) total h some w =
    let e : n - i ≡ 0 = omega arith in
    sym w ∙ ap (λ k. walk cut step k offset s (b ∷ rest)) e

-- what a test of emptiness answers
pub some_left : (n : ℕ) → eqb n 0 ≡ false → 0 < n
some_left zero e = absurd cc
some_left (suc n) e = omega arith

pub none_left : (n : ℕ) → eqb n 0 ≡ true → n ≡ 0
none_left n e = eqb-true n 0 e

pub ok_is : {A E : Type 0} {x y : A} → let r : Result A E = Ok x in r ≡ Ok y → x ≡ y
ok_is e = cc
