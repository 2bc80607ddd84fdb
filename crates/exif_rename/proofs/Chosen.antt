-- Why the path that is found is the first that was not given.
use Rattle.std.proofs.Common.{◌≡◌, ℕ, zero, suc, ◌+◌, ◌-◌, ◌<◌, ◌≤◌, List, ◌++◌, Bool, true, false, Option, Some, None, ap, refl, subst, ◌∙◌, arith}
use Rattle.exif_rename.specs.Unused.{unused, unused_from}
use Rattle.exif_rename.specs.RenameRequests.{candidate}

-- what is found from a number on is what is found at all
abbrev pub UnusedFrom : (List ℕ → Bool) → List ℕ → List ℕ → ℕ → Type 0
UnusedFrom is_given base ending number =
    unused is_given base ending ≡ unused_from is_given base ending (100000 - number) number

unused_hit_at : (is_given : List ℕ → Bool) (base ending : List ℕ) (tries number : ℕ) → is_given (candidate base number ++ ending) ≡ false
    → unused_from is_given base ending (suc tries) number ≡ Some (candidate base number ++ ending)
unfolding unused_from
unused_hit_at is_given base ending tries number is =
    ap (λ (b : Bool). elim b [ true ↦ unused_from is_given base ending tries (number + 1) | false ↦ Some (candidate base number ++ ending) ]) is

unused_miss_at : (is_given : List ℕ → Bool) (base ending : List ℕ) (tries number : ℕ) → is_given (candidate base number ++ ending) ≡ true
    → unused_from is_given base ending (suc tries) number ≡ unused_from is_given base ending tries (number + 1)
unfolding unused_from
unused_miss_at is_given base ending tries number is =
    ap (λ (b : Bool). elim b [ true ↦ unused_from is_given base ending tries (number + 1) | false ↦ Some (candidate base number ++ ending) ]) is

unused_none_at : (is_given : List ℕ → Bool) (base ending : List ℕ) (number : ℕ) → unused_from is_given base ending 0 number ≡ None
unfolding unused_from
unused_none_at is_given base ending number = refl

pub unused_hit : (is_given : List ℕ → Bool) (base ending : List ℕ) (number : ℕ) → number < 100000 → UnusedFrom is_given base ending number
    → is_given (candidate base number ++ ending) ≡ false → unused is_given base ending ≡ Some (candidate base number ++ ending)
unused_hit is_given base ending number h from is =
    let left : 100000 - number ≡ suc (99999 - number) = omega arith in
    from ∙ ap (λ t. unused_from is_given base ending t number) left ∙ unused_hit_at is_given base ending (99999 - number) number is

pub unused_miss : (is_given : List ℕ → Bool) (base ending : List ℕ) (number : ℕ) → number < 100000 → UnusedFrom is_given base ending number
    → is_given (candidate base number ++ ending) ≡ true → UnusedFrom is_given base ending (number + 1)
unused_miss is_given base ending number h from is =
    let left : 100000 - number ≡ suc (99999 - number) = omega arith in
    let left' : 99999 - number ≡ 100000 - (number + 1) = omega arith in
    from ∙ ap (λ t. unused_from is_given base ending t number) left ∙ unused_miss_at is_given base ending (99999 - number) number is
    ∙ ap (λ t. unused_from is_given base ending t (number + 1)) left'

pub unused_none : (is_given : List ℕ → Bool) (base ending : List ℕ) (number : ℕ) → 100000 ≤ number → UnusedFrom is_given base ending number
    → unused is_given base ending ≡ None
unused_none is_given base ending number h from =
    let left : 100000 - number ≡ 0 = omega arith in
    from ∙ ap (λ t. unused_from is_given base ending t number) left ∙ unused_none_at is_given base ending number

-- a path that is found was not given
chosen_by : (is_given : List ℕ → Bool) (rest : Option (List ℕ)) (candidate path : List ℕ) (b : Bool) → is_given candidate ≡ b
    → (rest ≡ Some path → is_given path ≡ false) → elim b [ true ↦ rest | false ↦ Some candidate ] ≡ Some path → is_given path ≡ false
chosen_by is_given rest candidate path true is later chosen = later chosen
chosen_by is_given rest candidate path false is later chosen = let same : candidate ≡ path = cc in subst (λ q. is_given q ≡ false) same is

chosen_from : (is_given : List ℕ → Bool) (base ending path : List ℕ) (tries number : ℕ) → unused_from is_given base ending tries number ≡ Some path → is_given path ≡ false
unfolding unused_from
chosen_from is_given base ending path zero number chosen = cc
chosen_from is_given base ending path (suc tries) number chosen =
    chosen_by is_given (unused_from is_given base ending tries (number + 1)) (candidate base number ++ ending) path (is_given (candidate base number ++ ending)) refl
    (chosen_from is_given base ending path tries (number + 1)) chosen

pub chosen_is_new : (is_given : List ℕ → Bool) (base ending path : List ℕ) → unused is_given base ending ≡ Some path → is_given path ≡ false
chosen_is_new is_given base ending path chosen = chosen_from is_given base ending path 100000 0 chosen
