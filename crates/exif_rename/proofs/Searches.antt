-- Why the search for a request may begin at a higher number.
use Rattle.std.proofs.Common.{◌≡◌, ℕ, zero, suc, ◌+◌, ◌-◌, ◌^◌, ◌<◌, ◌≤◌, List, [], ◌∷◌, ◌++◌, Bool, true, false, not, ◌&&◌, ◌||◌, Option, Some, None, inl, inr, ap, sym, refl, subst, ◌∙◌, arith}
use Rattle.std.proofs.lemmas.Bool.{false_from_ne_true}
use Rattle.std.proofs.lemmas.Bool.Decides.{eqb_tells}
use Rattle.std.proofs.lemmas.Slice.Eq.{bytes_eq-Decides}
use Rattle.std.specs.Option.{option_or}
use Rattle.std.specs.Str.{bytes_eq}
use Rattle.exif_files.specs.Each.{is_among}
use Rattle.exif_files.specs.States.{State, Now}
use Rattle.exif_rename.specs.Planned.{fit, fit_from, fits, free_in}
use Rattle.exif_rename.specs.Starts.{HasOwn, IsOwn, IsStart, NoneOpenFirst, is_open}
use Rattle.exif_rename.specs.RenameRequests.{File, Wanted, candidate, path_of, wanted_of}
use Rattle.exif_rename.specs.declared.request.RenameRequest.{RenameRequest}
use Rattle.exif_rename.proofs.Plans.{now_all, now_both, now_map}

-- a candidate that all the files can have is the first
hit_at : (free : List ℕ → Bool) (given : List (List ℕ)) (wanted : Wanted) (tries number : ℕ) → fits free given (candidate wanted.base number) wanted.files ≡ true
    → fit_from free given wanted (suc tries) number ≡ Some number
unfolding fit_from
hit_at free given wanted tries number is =
    ap (λ (b : Bool). elim b [ true ↦ Some number | false ↦ fit_from free given wanted tries (number + 1) ]) is

-- one that they can't have is skipped
miss_at : (free : List ℕ → Bool) (given : List (List ℕ)) (wanted : Wanted) (tries number : ℕ) → fits free given (candidate wanted.base number) wanted.files ≡ false
    → fit_from free given wanted (suc tries) number ≡ fit_from free given wanted tries (number + 1)
unfolding fit_from
miss_at free given wanted tries number is =
    ap (λ (b : Bool). elim b [ true ↦ Some number | false ↦ fit_from free given wanted tries (number + 1) ]) is

none_at : (free : List ℕ → Bool) (given : List (List ℕ)) (wanted : Wanted) (number : ℕ) → fit_from free given wanted 0 number ≡ None
unfolding fit_from
none_at free given wanted number = refl

-- those below a start that they can't have are skipped
skipped : (free : List ℕ → Bool) (given : List (List ℕ)) (wanted : Wanted) (tries start : ℕ) → start ≤ tries
    → ((k : ℕ) → k < start → fits free given (candidate wanted.base k) wanted.files ≡ false)
    → fit_from free given wanted tries 0 ≡ fit_from free given wanted (tries - start) start
skipped free given wanted tries zero h misses = let all : tries ≡ tries - 0 = omega arith in ap (λ t. fit_from free given wanted t 0) all
skipped free given wanted tries (suc n) h misses =
    let left : tries - n ≡ suc (tries - suc n) = omega arith in
    let next : n + 1 ≡ suc n = omega arith in
    skipped free given wanted tries n (omega arith) (λ k lt. misses k (omega arith))
    ∙ ap (λ t. fit_from free given wanted t n) left ∙ miss_at free given wanted (tries - suc n) n (misses n (omega arith))
    ∙ ap (fit_from free given wanted (tries - suc n)) next

-- a path that is not open and not the file's own can't be had
not_had : (among own free rest : Bool) → (not among && free) ≡ false → own ≡ false → ((not among && (own || free)) && rest) ≡ false
not_had true own free rest h o = refl
not_had false false false rest h o = refl
not_had false false true rest h o = cc
not_had false true free rest h o = cc

not_fit : (free is_given : List ℕ → Bool) (names : List (List ℕ)) (base : List ℕ) (file : File) (files : List File) (number : ℕ)
    → is_given (candidate base number ++ file.ending) ≡ is_among (candidate base number ++ file.ending) names → is_open free is_given (candidate base number ++ file.ending) ≡ false
    → (file.old ≡ path_of (candidate base number) file → ⊥) → fits free names (candidate base number) (file ∷ files) ≡ false
not_fit free is_given names base file files number same shut own =
    let path = candidate base number ++ file.ending in
    let other : bytes_eq path file.old ≡ false = false_from_ne_true (bytes_eq path file.old) (λ e. own (sym ((bytes_eq-Decides path file.old).0 e))) in
    not_had (is_among path names) (bytes_eq path file.old) (free path) (fits free (path ∷ names) (candidate base number) files)
    (ap (λ (b : Bool). not b && free path) (sym same) ∙ shut) other

-- below a start the files fit by no number but that which the first one has already
lower_not : (free is_given : List ℕ → Bool) (names : List (List ℕ)) (base : List ℕ) (files : List File) (own : Option ℕ) (start number : ℕ)
    → ((q : List ℕ) → is_given q ≡ is_among q names) → NoneOpenFirst free is_given base files start → HasOwn base files own → start ≤ 100000 → number < start → (own ≡ Some number → ⊥)
    → fits free names (candidate base number) files ≡ false
lower_not free is_given names base [] own start number same begin has h lt other = absurd (omega arith)
lower_not free is_given names base (file ∷ files) own start number same begin has h lt other =
    let small : number < 2 ^ 32 = omega arith in
    not_fit free is_given names base file files number (same (candidate base number ++ file.ending)) (begin number lt) (λ e. other (has number small e))

-- what is answered of a candidate
abbrev pub FitsIs : List State → List (List ℕ) → RenameRequest → ℕ → Bool → Type 0
FitsIs b names request number answer = Now b (λ s. fits (free_in s) names (candidate (wanted_of request).base number) (wanted_of request).files ≡ answer)

-- where a search may begin
abbrev pub Begins : State → (List ℕ → Bool) → RenameRequest → ℕ → Type 0
Begins s is_given request start = IsStart (free_in s) is_given (wanted_of request) start

-- the candidates before a number were skipped
abbrev pub FitFrom : List State → List (List ℕ) → (List ℕ → Bool) → RenameRequest → ℕ → ℕ → Type 0
FitFrom a names is_given request start number = Now a (λ s. Begins s is_given request start
    → fit (free_in s) names (wanted_of request) ≡ fit_from (free_in s) names (wanted_of request) (100000 - number) number)

-- what a search found
abbrev pub Found : List State → List (List ℕ) → (List ℕ → Bool) → RenameRequest → ℕ → Option ℕ → Type 0
Found a names is_given request start found = Now a (λ s. Begins s is_given request start → fit (free_in s) names (wanted_of request) ≡ found)

-- what a search found, or else finds from its start on
abbrev pub FoundOr : List State → List (List ℕ) → (List ℕ → Bool) → RenameRequest → ℕ → Option ℕ → Type 0
FoundOr a names is_given request start own = Now a (λ s. Begins s is_given request start
    → fit (free_in s) names (wanted_of request) ≡ option_or own (fit_from (free_in s) names (wanted_of request) (100000 - start) start))

-- the first file has none of the lower numbers
pub own_none : (a : List State) (names : List (List ℕ)) (is_given : List ℕ → Bool) (request : RenameRequest) (start : ℕ) (own : Option ℕ)
    → ((q : List ℕ) → is_given q ≡ is_among q names) → IsOwn (wanted_of request) own → start ≤ 100000 → ((k : ℕ) → k < start → own ≡ Some k → ⊥)
    → FitFrom a names is_given request start start
own_none a names is_given request start own same has h none =
    now_all _ a (λ s begin. skipped (free_in s) names (wanted_of request) 100000 start h
    (λ k lt. lower_not (free_in s) is_given names (wanted_of request).base (wanted_of request).files own start k same begin has h lt (none k lt)))

-- it has one, by which all fit
pub own_hit : (a b : List State) (names : List (List ℕ)) (is_given : List ℕ → Bool) (request : RenameRequest) (start own : ℕ) (answer : Bool)
    → ((q : List ℕ) → is_given q ≡ is_among q names) → IsOwn (wanted_of request) (Some own) → start ≤ 100000 → own < start
    → b ≡ a → FitsIs b names request own answer → answer ≡ true → Found a names is_given request start (Some own)
own_hit a b names is_given request start own answer same has h lt states is on_ =
    let within : own ≤ 100000 = omega arith in
    let left : 100000 - own ≡ suc (99999 - own) = omega arith in
    let Q : List State → Type 0 = λ xs. FitsIs xs names request own answer in
    now_map _ _ a (subst Q states is) (λ s y begin.
    skipped (free_in s) names (wanted_of request) 100000 own within
    (λ k less. let below : k < start = omega arith in
    lower_not (free_in s) is_given names (wanted_of request).base (wanted_of request).files (Some own) start k same begin has h below
    (λ e. let one : own ≡ k = cc in absurd (omega arith)))
    ∙ ap (λ t. fit_from (free_in s) names (wanted_of request) t own) left ∙ hit_at (free_in s) names (wanted_of request) (99999 - own) own (y ∙ on_))

-- it has one, by which not all fit
pub own_miss : (a b : List State) (names : List (List ℕ)) (is_given : List ℕ → Bool) (request : RenameRequest) (start own : ℕ) (answer : Bool)
    → ((q : List ℕ) → is_given q ≡ is_among q names) → IsOwn (wanted_of request) (Some own) → start ≤ 100000
    → b ≡ a → FitsIs b names request own answer → answer ≡ false → FitFrom a names is_given request start start
own_miss a b names is_given request start own answer same has h states is off =
    let Q : List State → Type 0 = λ xs. FitsIs xs names request own answer in
    now_map _ _ a (subst Q states is) (λ s y begin.
    let misses : ℕ → Type 0 = λ k. fits (free_in s) names (candidate (wanted_of request).base k) (wanted_of request).files ≡ false in
    skipped (free_in s) names (wanted_of request) 100000 start h
    (λ k lt. elim (eqb_tells own k) [
      | inl w ↦ subst misses w.1 (y ∙ off)
      | inr w ↦ lower_not (free_in s) is_given names (wanted_of request).base (wanted_of request).files (Some own) start k same begin has h lt (λ e. w.1 (cc))
    ]))

pub fit_hit : (a b : List State) (names : List (List ℕ)) (is_given : List ℕ → Bool) (request : RenameRequest) (start number : ℕ) (answer : Bool) → number < 100000
    → b ≡ a → FitFrom a names is_given request start number → FitsIs b names request number answer → answer ≡ true → Found a names is_given request start (Some number)
fit_hit a b names is_given request start number answer h states from is on_ =
    let left : 100000 - number ≡ suc (99999 - number) = omega arith in
    now_both _ _ _ a b states from is (λ s x y begin.
    x begin ∙ ap (λ t. fit_from (free_in s) names (wanted_of request) t number) left ∙ hit_at (free_in s) names (wanted_of request) (99999 - number) number (y ∙ on_))

pub fit_miss : (a b : List State) (names : List (List ℕ)) (is_given : List ℕ → Bool) (request : RenameRequest) (start number : ℕ) (answer : Bool) → number < 100000
    → b ≡ a → FitFrom a names is_given request start number → FitsIs b names request number answer → answer ≡ false → FitFrom a names is_given request start (number + 1)
fit_miss a b names is_given request start number answer h states from is off =
    let left : 100000 - number ≡ suc (99999 - number) = omega arith in
    let left' : 99999 - number ≡ 100000 - (number + 1) = omega arith in
    now_both _ _ _ a b states from is (λ s x y begin.
    x begin ∙ ap (λ t. fit_from (free_in s) names (wanted_of request) t number) left ∙ miss_at (free_in s) names (wanted_of request) (99999 - number) number (y ∙ off)
    ∙ ap (λ t. fit_from (free_in s) names (wanted_of request) t (number + 1)) left')

pub fit_none : (a : List State) (names : List (List ℕ)) (is_given : List ℕ → Bool) (request : RenameRequest) (start number : ℕ) → 100000 ≤ number → FitFrom a names is_given request start number
    → Found a names is_given request start None
fit_none a names is_given request start number h from =
    let left : 100000 - number ≡ 0 = omega arith in
    now_map _ _ a from (λ s x begin. x begin ∙ ap (λ t. fit_from (free_in s) names (wanted_of request) t number) left ∙ none_at (free_in s) names (wanted_of request) number)
