-- The number by which the files of a request have their paths already.
use Rattle.std.proofs.Common.{◌≡◌, ◌≢◌, ◌⊎◌, ℕ, zero, suc, ◌+◌, ◌≤◌, ◌<◌, List, [], ◌∷◌, ◌++◌, append_assoc, length, map, take, Bool, true, false, ◌&&◌, Option, Some, None, ap, sym, refl, subst, ◌∙◌, inl, inr, arith}
use Rattle.std.specs.Prelude.{if◌then◌else◌, codes, ◌==◌}
use Rattle.std.specs.Fmt.{decimal}
use Rattle.std.specs.List.{slice_get}
use Rattle.std.specs.Str.{bytes_eq}
use Rattle.std.proofs.lemmas.Slice.Eq.{bytes_eq-Decides}
use Rattle.exif_files.specs.States.{State, Now}
use Rattle.exif_rename.specs.Planned.{all_own, chosen, fit, fits, free_in, has_base, kept_or, own, own_from}
use Rattle.exif_rename.specs.Starts.{HasOwn}
use Rattle.exif_rename.specs.RenameRequests.{File, Wanted, candidate, file_of, path_of, wanted_of}
use Rattle.exif_rename.specs.declared.request.RequestFile.{RequestFile}
use Rattle.exif_rename.specs.declared.request.RenameRequest.{RenameRequest}
use Rattle.exif_rename.proofs.Plans.{now_map, now_both}
use Rattle.exif_rename.proofs.Searches.{Begins, Found}

-- the number that a request gets, once it is known from where a search may begin
abbrev pub Chosen : List State → List (List ℕ) → (List ℕ → Bool) → RenameRequest → ℕ → Option ℕ → Type 0
Chosen a names is_given request start found = Now a (λ s. Begins s is_given request start → chosen (free_in s) names (wanted_of request) ≡ found)

-- ---- the search for it

own_none : (wanted : Wanted) (tries from : ℕ) → ((k : ℕ) → from ≤ k → k < from + tries → all_own (candidate wanted.base k) wanted.files ≡ false) → own_from wanted tries from ≡ None
unfolding own_from
own_none wanted zero from others = refl
own_none wanted (suc tries) from others =
    ap (λ (b : Bool). elim b [ true ↦ Some from | false ↦ own_from wanted tries (from + 1) ]) (others from (omega arith) (omega arith))
    ∙ own_none wanted tries (from + 1) (λ k lo hi. others k (omega (arith, lo)) (omega (arith, hi)))

here_or_after : (a b : ℕ) → a ≤ b → (a ≡ b) ⊎ (a < b)
here_or_after zero zero h = inl refl
here_or_after zero (suc b) h = inr (omega arith)
here_or_after (suc a) zero h = absurd (omega (arith, h))
here_or_after (suc a) (suc b) h = elim (here_or_after a b (omega (arith, h))) [
  | inl e ↦ inl (ap (λ (n : ℕ). suc n) e)
  | inr l ↦ inr (omega (arith, l))
]

own_some : (wanted : Wanted) (tries from number : ℕ) → from ≤ number → number < from + tries → all_own (candidate wanted.base number) wanted.files ≡ true
    → ((k : ℕ) → from ≤ k → k < number → all_own (candidate wanted.base k) wanted.files ≡ false) → own_from wanted tries from ≡ Some number
unfolding own_from
own_some wanted zero from number lo hi is others = absurd (omega (arith, lo, hi))
own_some wanted (suc tries) from number lo hi is others = elim (here_or_after from number lo) [
  | inl e ↦
      let here : all_own (candidate wanted.base from) wanted.files ≡ true = subst (λ (n : ℕ). all_own (candidate wanted.base n) wanted.files ≡ true) (sym e) is in
      ap (λ (b : Bool). elim b [ true ↦ Some from | false ↦ own_from wanted tries (from + 1) ]) here ∙ ap (λ (n : ℕ). Some n) e
  | inr l ↦
      ap (λ (b : Bool). elim b [ true ↦ Some from | false ↦ own_from wanted tries (from + 1) ]) (others from (omega arith) l)
      ∙ own_some wanted tries (from + 1) number (omega (arith, l)) (omega (arith, hi)) is (λ k lo' hi'. others k (omega (arith, lo')) hi')
]

-- ---- the first file's number is the only one

and_left : (a b : Bool) → (a && b) ≡ true → a ≡ true
and_left true b h = refl
and_left false b h = cc

false_unless : (b : Bool) → (b ≡ true → ⊥) → b ≡ false
false_unless true h = absurd (h refl)
false_unless false h = refl

only_own : (base : List ℕ) (file : File) (files : List File) (had : Option ℕ) (k : ℕ) → HasOwn base (file ∷ files) had → k < 100000 → (had ≡ Some k → ⊥) → all_own (candidate base k) (file ∷ files) ≡ false
only_own base file files had k has lt other =
    false_unless (all_own (candidate base k) (file ∷ files)) (λ all.
    let same : path_of (candidate base k) file ≡ file.old = (bytes_eq-Decides (path_of (candidate base k) file) file.old).0 (and_left (bytes_eq (path_of (candidate base k) file) file.old) _ all) in
    other (has k (omega (arith, lt)) (sym same)))

-- each candidate begins with the base
take_front : (xs ys : List ℕ) → take (length xs) (xs ++ ys) ≡ xs
take_front [] ys = refl
take_front (x ∷ xs) ys = ap (λ (zs : List ℕ). x ∷ zs) (take_front xs ys)

candidate_begins : (base : List ℕ) (number : ℕ) (ending : List ℕ) → (rest : List ℕ) × (candidate base number ++ ending ≡ base ++ rest)
candidate_begins base number ending = whether (number == 0)
  where
    whether : (b : Bool) → (rest : List ℕ) × ((if b then base else base ++ (codes "_" ++ decimal number)) ++ ending ≡ base ++ rest)
    whether true = (ending, refl)
    whether false = ((codes "_" ++ decimal number) ++ ending, append_assoc base (codes "_" ++ decimal number) ending)

own_has_base : (base : List ℕ) (file : File) (files : List File) (number : ℕ) → all_own (candidate base number) (file ∷ files) ≡ true → has_base base (file ∷ files) ≡ true
own_has_base base file files number all =
    let same : path_of (candidate base number) file ≡ file.old = (bytes_eq-Decides (path_of (candidate base number) file) file.old).0 (and_left (bytes_eq (path_of (candidate base number) file) file.old) _ all) in
    let begins = candidate_begins base number file.ending in
    let here : take (length base) file.old ≡ base = ap (take (length base)) (sym same ∙ begins.1) ∙ take_front base begins.0 in
    (bytes_eq-Decides base (take (length base) file.old)).1 (sym here)

-- where the search finds none, there is none
none_then : (wanted : Wanted) → own_from wanted 100000 0 ≡ None → own wanted ≡ None
none_then wanted none = whether (has_base wanted.base wanted.files)
  where
    whether : (b : Bool) → (if b then own_from wanted 100000 0 else None) ≡ None
    whether true = none
    whether false = refl

abbrev pub wanting : List ℕ → List File → Wanted
wanting base files = record { base = base; files = files }

pub no_own : (base : List ℕ) (files : List File) (had : Option ℕ) → HasOwn base files had → ((k : ℕ) → k < 100000 → had ≡ Some k → ⊥) → own (wanting base files) ≡ None
no_own base [] had has other = refl
no_own base (file ∷ files) had has other =
    none_then (wanting base (file ∷ files)) (own_none (wanting base (file ∷ files)) 100000 0 (λ k lo hi. only_own base file files had k has (omega (arith, hi)) (other k (omega (arith, hi)))))

pub with_own : (base : List ℕ) (files : List File) (had : Option ℕ) (number : ℕ) → (files ≡ [] → ⊥) → HasOwn base files had → had ≡ Some number → number < 100000
    → all_own (candidate base number) files ≡ true → own (wanting base files) ≡ Some number
with_own base [] had number some has e lt all = absurd (some refl)
with_own base (file ∷ files) had number some has e lt all =
    ap (λ (b : Bool). if b then own_from (wanting base (file ∷ files)) 100000 0 else None) (own_has_base base file files number all)
    ∙ own_some (wanting base (file ∷ files)) 100000 0 number (omega arith) (omega (arith, lt)) all
    (λ k lo hi. only_own base file files had k has (omega (arith, lt, hi)) (λ e'. let same : number ≡ k = cc in omega (arith, same, hi)))

pub not_all_own : (base : List ℕ) (files : List File) (had : Option ℕ) (number : ℕ) → HasOwn base files had → had ≡ Some number
    → all_own (candidate base number) files ≡ false → own (wanting base files) ≡ None
not_all_own base [] had number has e off = refl
not_all_own base (file ∷ files) had number has e off =
    none_then (wanting base (file ∷ files)) (own_none (wanting base (file ∷ files)) 100000 0 (λ k lo hi. elim (same_number k number) [
      | inl same ↦ subst (λ (n : ℕ). all_own (candidate base n) (file ∷ files) ≡ false) (sym same) off
      | inr ne ↦ only_own base file files had k has (omega (arith, hi)) (λ e'. let same : k ≡ number = cc in ne same)
    ]))
  where
    same_number : (a b : ℕ) → (a ≡ b) ⊎ (a ≢ b)
    same_number zero zero = inl refl
    same_number zero (suc b) = inr (λ e. omega (arith, e))
    same_number (suc a) zero = inr (λ e. omega (arith, e))
    same_number (suc a) (suc b) = elim (same_number a b) [
      | inl e ↦ inl (ap (λ (n : ℕ). suc n) e)
      | inr ne ↦ inr (λ e. ne (omega (arith, e)))
    ]

pub no_files : (base : List ℕ) (files : List RequestFile) → slice_get files 0 ≡ None → own (wanting base (map file_of files)) ≡ None
no_files base [] e = refl
no_files base (file ∷ files) e = cc

pub some_files : (files : List RequestFile) (first : RequestFile) → slice_get files 0 ≡ Some first → map file_of files ≡ [] → ⊥
some_files [] first e none = cc
some_files (file ∷ files) first e none = cc

-- ---- the number that a request gets

pub kept_number : (a b : List State) (names : List (List ℕ)) (is_given : List ℕ → Bool) (request : RenameRequest) (start number : ℕ) (had : Option ℕ) (answer : Bool) → b ≡ a → own (wanted_of request) ≡ had → had ≡ Some number → answer ≡ true
    → Now b (λ s. fits (free_in s) names (candidate (wanted_of request).base number) (wanted_of request).files ≡ answer) → Chosen a names is_given request start (Some number)
kept_number a b names is_given request start number had answer same is some on_ fit_now =
    let P : List State → Type 0 = λ xs. Now xs (λ s. fits (free_in s) names (candidate (wanted_of request).base number) (wanted_of request).files ≡ answer) in
    now_map _ _ a (subst P same fit_now) (λ s fitting begin.
    ap (kept_or (free_in s) names (wanted_of request)) (is ∙ some) ∙ ap (λ (b : Bool). if b then Some number else fit (free_in s) names (wanted_of request)) (fitting ∙ on_))

pub other_number : (a b c : List State) (names : List (List ℕ)) (is_given : List ℕ → Bool) (request : RenameRequest) (start number : ℕ) (had found : Option ℕ) (answer : Bool) → b ≡ a → c ≡ a → own (wanted_of request) ≡ had → had ≡ Some number
    → answer ≡ false → Now b (λ s. fits (free_in s) names (candidate (wanted_of request).base number) (wanted_of request).files ≡ answer) → Found c names is_given request start found → Chosen a names is_given request start found
other_number a b c names is_given request start number had found answer same same' is some off fit_now finds =
    let P : List State → Type 0 = λ xs. Now xs (λ s. fits (free_in s) names (candidate (wanted_of request).base number) (wanted_of request).files ≡ answer) in
    now_both _ _ _ a c same' (subst P same fit_now) finds (λ s fitting f begin.
    ap (kept_or (free_in s) names (wanted_of request)) (is ∙ some) ∙ ap (λ (b : Bool). if b then Some number else fit (free_in s) names (wanted_of request)) (fitting ∙ off) ∙ f begin)

pub no_number : (a c : List State) (names : List (List ℕ)) (is_given : List ℕ → Bool) (request : RenameRequest) (start : ℕ) (had found : Option ℕ) → c ≡ a → own (wanted_of request) ≡ had → had ≡ None
    → Found c names is_given request start found → Chosen a names is_given request start found
no_number a c names is_given request start had found same is none finds =
    let P : List State → Type 0 = λ xs. Found xs names is_given request start found in
    now_map _ _ a (subst P same finds) (λ s f begin. ap (kept_or (free_in s) names (wanted_of request)) (is ∙ none) ∙ f begin)
