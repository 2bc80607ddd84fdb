-- How a plan goes on from file to file and from request to request.
use Rattle.std.proofs.Common.{◌≡◌, ℕ, ◌+◌, ◌<◌, ◌≤◌, List, [], ◌∷◌, ◌++◌, Bool, true, false, not, ◌&&◌, ◌||◌, cond, Option, Some, None, Result, Ok, Err, append_assoc, ap, sym, refl, subst, ◌∙◌, length, get_or, take, drop, map, arith}
use Rattle.std.proofs.lemmas.List.{take_more, drop_more, drop_all, get_or-map, length-map, length-append}
use Rattle.std.specs.Str.{bytes_eq}
use Rattle.std.specs.String.{string_bytes}
use Rattle.exif_files.specs.Each.{is_among}
use Rattle.exif_files.specs.States.{State, Now}
use Rattle.exif_rename.specs.Planned.{can_have, chosen, fits, free_in, planned, planned_after, with_number, with_paths}
use Rattle.exif_rename.specs.RenameRequests.{File, Wanted, candidate, file_of, path_of, wanted_of}
use Rattle.exif_rename.specs.declared.request.RenameRequest.{RenameRequest}
use Rattle.exif_rename.specs.declared.request.RequestFile.{RequestFile}

-- what is known of the last state, from two facts of it
pub now_both : (P Q R : State → Type 0) (a b : List State) → b ≡ a → Now a P → Now b Q → ((s : State) → P s → Q s → R s) → Now a R
now_both P Q R [] b e p q f = tt
now_both P Q R (s ∷ past) b e p q f = let Q' : List State → Type 0 = λ xs. Now xs Q in f s p (subst Q' e q)

pub now_map : (P R : State → Type 0) (a : List State) → Now a P → ((s : State) → P s → R s) → Now a R
now_map P R [] p f = tt
now_map P R (s ∷ past) p f = f s p

pub now_all : (P : State → Type 0) (a : List State) → ((s : State) → P s) → Now a P
now_all P [] f = tt
now_all P (s ∷ past) f = f s

-- the member of an index in a list of what is made of others
pub next_of : {X Y : Type 0} (f : X → Y) (xs : List X) (i : ℕ) (x : X) → i < length xs → x ≡ get_or xs i x
    → (take (i + 1) (map f xs) ≡ take i (map f xs) ++ f x ∷ []) × (drop i (map f xs) ≡ f x ∷ drop (i + 1) (map f xs))
next_of f xs i x h is =
    let within : i < length (map f xs) = omega (arith, length-map xs f) in
    let at : get_or (map f xs) i (f x) ≡ f x = get_or-map f xs i x (f x) h ∙ ap f (sym is) in (
      take_more (map f xs) i (f x) within ∙ ap (λ y. take i (map f xs) ++ y ∷ []) at,
      drop_more (map f xs) i (f x) within ∙ ap (λ y. y ∷ drop (i + 1) (map f xs)) at,
    )

with_paths_more : (name : List ℕ) (files : List File) (file : File) (given : List (List ℕ)) → with_paths name (files ++ file ∷ []) given ≡ path_of name file ∷ with_paths name files given
with_paths_more name [] file given = refl
with_paths_more name (x ∷ files) file given = with_paths_more name files file (path_of name x ∷ given)

cond_or : (a b : Bool) → cond a true b ≡ (a || b)
cond_or true b = refl
cond_or false b = refl

-- one more path was given
pub give_next : (name : List ℕ) (files : List RequestFile) (i : ℕ) (file : RequestFile) (path : List ℕ) (names : List (List ℕ)) (q : List ℕ) (was new : Bool)
    → i < length files → file ≡ get_or files i file → path ≡ name ++ string_bytes file.ending
    → was ≡ is_among q (with_paths name (take i (map file_of files)) names) → new ≡ cond (bytes_eq path q) true was
    → new ≡ is_among q (with_paths name (take (i + 1) (map file_of files)) names)
give_next name files i file path names q was new h is e was_is new_is =
    let front = take i (map file_of files) in
    new_is ∙ ap (λ (b : Bool). cond (bytes_eq path q) true b) was_is ∙ cond_or (bytes_eq path q) (is_among q (with_paths name front names))
    ∙ ap (λ (p : List ℕ). bytes_eq p q || is_among q (with_paths name front names)) e
    ∙ sym (ap (is_among q) (ap (λ (fs : List File). with_paths name fs names) ((next_of file_of files i file h is).0) ∙ with_paths_more name front (file_of file) names))

among_append : (q : List ℕ) (xs ys : List (List ℕ)) → is_among q (xs ++ ys) ≡ (is_among q xs || is_among q ys)
among_append q [] ys = refl
among_append q (x ∷ xs) ys = ap (λ (b : Bool). bytes_eq x q || b) (among_append q xs ys) ∙ or_assoc (bytes_eq x q) (is_among q xs) (is_among q ys)
  where
    or_assoc : (a b c : Bool) → (a || (b || c)) ≡ ((a || b) || c)
    or_assoc true b c = refl
    or_assoc false b c = refl

or_last : (e a b : Bool) → (e || (a || b)) ≡ (a || (b || (e || false)))
or_last true true b = refl
or_last true false true = refl
or_last true false false = refl
or_last false true b = refl
or_last false false true = refl
or_last false false false = refl

map_append : {X Y : Type 0} (f : X → Y) (xs ys : List X) → map f (xs ++ ys) ≡ map f xs ++ map f ys
map_append f [] ys = refl
map_append f (x ∷ xs) ys = ap (λ rest. f x ∷ rest) (map_append f xs ys)

-- one more path of the request is among those that no other file can have
pub among_next : {X : Type 0} (text : X → List ℕ) (name : List ℕ) (files : List RequestFile) (i : ℕ) (file : RequestFile) (path : X) (paths paths' : List X) (names : List (List ℕ)) (q : List ℕ)
    → i < length files → file ≡ get_or files i file → text path ≡ name ++ string_bytes file.ending → paths' ≡ paths ++ path ∷ []
    → is_among q (with_paths name (take i (map file_of files)) names) ≡ (is_among q names || is_among q (map text paths))
    → is_among q (with_paths name (take (i + 1) (map file_of files)) names) ≡ (is_among q names || is_among q (map text paths'))
among_next text name files i file path paths paths' names q h is e more was =
    let front = take i (map file_of files) in
    let new = ap (is_among q) (ap (λ (fs : List File). with_paths name fs names) ((next_of file_of files i file h is).0) ∙ with_paths_more name front (file_of file) names) in
    let all : is_among q (map text paths') ≡ (is_among q (map text paths) || (bytes_eq (text path) q || false)) =
    ap (λ ps. is_among q (map text ps)) more ∙ ap (is_among q) (map_append text paths (path ∷ [])) ∙ among_append q (map text paths) (text path ∷ []) in
    new ∙ ap (λ (p : List ℕ). bytes_eq p q || is_among q (with_paths name front names)) (sym e)
    ∙ ap (λ (b : Bool). bytes_eq (text path) q || b) was ∙ or_last (bytes_eq (text path) q) (is_among q names) (is_among q (map text paths))
    ∙ ap (λ (b : Bool). is_among q names || b) (sym all)

-- whether all the files fit is whether this one does and the others do
fits_next : (free : List ℕ → Bool) (name : List ℕ) (files : List RequestFile) (i : ℕ) (file : RequestFile) (path old : List ℕ) (names : List (List ℕ)) (among answer all : Bool)
    → i < length files → file ≡ get_or files i file → path ≡ name ++ string_bytes file.ending → old ≡ string_bytes file.old
    → is_among path (with_paths name (take i (map file_of files)) names) ≡ among
    → answer ≡ (not among && (bytes_eq path old || free path))
    → all ≡ fits free (with_paths name (take i (map file_of files)) names) name (drop i (map file_of files))
    → all ≡ (answer && fits free (with_paths name (take (i + 1) (map file_of files)) names) name (drop (i + 1) (map file_of files)))
fits_next free name files i file path old names among answer all h is e old_is among_is answer_is all_is =
    let front = take i (map file_of files) in
    let next = next_of file_of files i file h is in
    let given = with_paths name front names in
    let rest = drop (i + 1) (map file_of files) in
    let P : List ℕ → Type 0 = λ p. answer ≡ can_have free given p (file_of file) in
    let can : answer ≡ can_have free given (path_of name (file_of file)) (file_of file) = subst P e
    (answer_is ∙ ap (λ (b : Bool). not b && (bytes_eq path old || free path)) (sym among_is) ∙ ap (λ (o : List ℕ). not (is_among path given) && (bytes_eq path o || free path)) old_is) in
    all_is ∙ ap (λ fs. fits free given name fs) next.1 ∙ ap (λ (b : Bool). b && fits free (path_of name (file_of file) ∷ given) name rest) (sym can)
    ∙ ap (λ (g : List (List ℕ)). answer && fits free g name rest)
    (sym (ap (λ (fs : List File). with_paths name fs names) next.0 ∙ with_paths_more name front (file_of file) names))

-- how far the files of a request fit
abbrev pub FitsFrom : List State → List (List ℕ) → List ℕ → List RequestFile → ℕ → Type 0
FitsFrom a names name files i = Now a (λ s. fits (free_in s) names name (map file_of files)
    ≡ fits (free_in s) (with_paths name (take i (map file_of files)) names) name (drop i (map file_of files)))

-- what is answered of a file
abbrev pub Answered : List State → Bool → List ℕ → List (List ℕ) → List ℕ → Bool → Type 0
Answered b contains path paths old answer = Now b (λ s. answer ≡ (not (contains || is_among path paths) && (bytes_eq path old || free_in s path)))

fits_now : (a b : List State) (name : List ℕ) (files : List RequestFile) (i : ℕ) (file : RequestFile) (path old : List ℕ) (names paths paths' : List (List ℕ)) (contains answer : Bool)
    → i < length files → file ≡ get_or files i file → path ≡ name ++ string_bytes file.ending → old ≡ string_bytes file.old → paths' ≡ paths
    → contains ≡ is_among path names
    → is_among path (with_paths name (take i (map file_of files)) names) ≡ (is_among path names || is_among path paths)
    → b ≡ a → FitsFrom a names name files i → Answered b contains path paths' old answer
    → Now a (λ s. fits (free_in s) names name (map file_of files)
    ≡ (answer && fits (free_in s) (with_paths name (take (i + 1) (map file_of files)) names) name (drop (i + 1) (map file_of files))))
fits_now a b name files i file path old names paths paths' contains answer h is e old_is slice contains_is among_is same rest own =
    now_both _ _ _ a b same rest own (λ s rest own.
    fits_next (free_in s) name files i file path old names (contains || is_among path paths') answer _ h is e old_is
    (among_is ∙ ap (λ (c : Bool). c || is_among path paths) (sym contains_is) ∙ ap (λ ps. contains || is_among path ps) (sym slice)) own rest)

-- a file does not fit
pub fits_not : (a b : List State) (name : List ℕ) (files : List RequestFile) (i : ℕ) (file : RequestFile) (path old : List ℕ) (names paths paths' : List (List ℕ)) (contains answer : Bool)
    → i < length files → file ≡ get_or files i file → path ≡ name ++ string_bytes file.ending → old ≡ string_bytes file.old → paths' ≡ paths
    → contains ≡ is_among path names
    → is_among path (with_paths name (take i (map file_of files)) names) ≡ (is_among path names || is_among path paths)
    → b ≡ a → FitsFrom a names name files i → Answered b contains path paths' old answer → answer ≡ false
    → Now a (λ s. fits (free_in s) names name (map file_of files) ≡ false)
fits_not a b name files i file path old names paths paths' contains answer h is e old_is slice contains_is among_is same rest own off =
    now_map _ _ a (fits_now a b name files i file path old names paths paths' contains answer h is e old_is slice contains_is among_is same rest own)
    (λ s all. all ∙ ap (λ (b : Bool). b && fits (free_in s) (with_paths name (take (i + 1) (map file_of files)) names) name (drop (i + 1) (map file_of files))) off)

-- a file fits
pub fits_more : (a b : List State) (name : List ℕ) (files : List RequestFile) (i : ℕ) (file : RequestFile) (path old : List ℕ) (names paths paths' : List (List ℕ)) (contains answer : Bool)
    → i < length files → file ≡ get_or files i file → path ≡ name ++ string_bytes file.ending → old ≡ string_bytes file.old → paths' ≡ paths
    → contains ≡ is_among path names
    → is_among path (with_paths name (take i (map file_of files)) names) ≡ (is_among path names || is_among path paths)
    → b ≡ a → FitsFrom a names name files i → Answered b contains path paths' old answer → answer ≡ true
    → FitsFrom a names name files (i + 1)
fits_more a b name files i file path old names paths paths' contains answer h is e old_is slice contains_is among_is same rest own on_ =
    now_map _ _ a (fits_now a b name files i file path old names paths paths' contains answer h is e old_is slice contains_is among_is same rest own)
    (λ s all. all ∙ ap (λ (b : Bool). b && fits (free_in s) (with_paths name (take (i + 1) (map file_of files)) names) name (drop (i + 1) (map file_of files))) on_)

-- all the files fit
pub fits_all : (a : List State) (names : List (List ℕ)) (name : List ℕ) (files : List RequestFile) (i : ℕ) → length files ≤ i → FitsFrom a names name files i
    → Now a (λ s. fits (free_in s) names name (map file_of files) ≡ true)
fits_all a names name files i h rest =
    now_map _ _ a rest (λ s all. all ∙ ap (λ fs. fits (free_in s) (with_paths name (take i (map file_of files)) names) name fs)
    (drop_all i (map file_of files) (omega (arith, length-map files file_of))))

-- numbers in front of others; of a request without one, how many are before it
abbrev pub with_numbers : List ℕ → Result (List ℕ) ℕ → Result (List ℕ) ℕ
with_numbers front (Ok numbers) = Ok (front ++ numbers)
with_numbers front (Err before) = Err (length front + before)

with_numbers_more : (front : List ℕ) (number : ℕ) (r : Result (List ℕ) ℕ) → with_numbers front (with_number number r) ≡ with_numbers (front ++ number ∷ []) r
with_numbers_more front number (Ok numbers) = ap (λ ns. Ok ns) (sym (append_assoc front (number ∷ []) numbers))
with_numbers_more front number (Err before) =
    let e : length front + (before + 1) ≡ length (front ++ number ∷ []) + before = omega (arith, length-append front (number ∷ [])) in
    ap (λ n. Err n) e

-- how far a plan is made, where these paths were given
abbrev pub PlannedFrom : List State → List RenameRequest → List (List ℕ) → List ℕ → ℕ → Type 0
PlannedFrom a requests names numbers i = Now a (λ s. planned (free_in s) (map wanted_of requests)
    ≡ with_numbers numbers (planned_after (free_in s) names (drop i (map wanted_of requests))))

-- what is answered of a request
abbrev pub FitIs : List State → List (List ℕ) → RenameRequest → Option ℕ → Type 0
FitIs b names request found = Now b (λ s. chosen (free_in s) names (wanted_of request) ≡ found)

after_some : (free : List ℕ → Bool) (names : List (List ℕ)) (wanted : Wanted) (rest : List Wanted) (number : ℕ) → chosen free names wanted ≡ Some number
    → planned_after free names (wanted ∷ rest) ≡ with_number number (planned_after free (with_paths (candidate wanted.base number) wanted.files names) rest)
after_some free names wanted rest number is =
    ap (λ (found : Option ℕ). elim found [
      | None ↦ Err 0
      | Some number ↦ with_number number (planned_after free (with_paths (candidate wanted.base number) wanted.files names) rest)
    ]) is

after_none : (free : List ℕ → Bool) (names : List (List ℕ)) (wanted : Wanted) (rest : List Wanted) → chosen free names wanted ≡ None
    → planned_after free names (wanted ∷ rest) ≡ Err 0
after_none free names wanted rest is =
    ap (λ (found : Option ℕ). elim found [
      | None ↦ Err 0
      | Some number ↦ with_number number (planned_after free (with_paths (candidate wanted.base number) wanted.files names) rest)
    ]) is

-- a request got a number
pub planned_more : (a b : List State) (requests : List RenameRequest) (names : List (List ℕ)) (numbers numbers' : List ℕ) (i : ℕ) (request : RenameRequest) (number : ℕ) → i < length requests → request ≡ get_or requests i request
    → numbers' ≡ numbers ++ number ∷ [] → b ≡ a → PlannedFrom a requests names numbers i → FitIs b names request (Some number)
    → PlannedFrom a requests (with_paths (candidate (wanted_of request).base number) (wanted_of request).files names) numbers' (i + 1)
planned_more a b requests names numbers numbers' i request number h is more same from found =
    let next = (next_of wanted_of requests i request h is).1 in
    now_both _ _ _ a b same from found (λ s x y.
    let rest = planned_after (free_in s) (with_paths (candidate (wanted_of request).base number) (wanted_of request).files names) (drop (i + 1) (map wanted_of requests)) in
    x ∙ ap (λ ws. with_numbers numbers (planned_after (free_in s) names ws)) next
    ∙ ap (with_numbers numbers) (after_some (free_in s) names (wanted_of request) (drop (i + 1) (map wanted_of requests)) number y)
    ∙ with_numbers_more numbers number rest ∙ ap (λ ns. with_numbers ns rest) (sym more))

-- a request got none
pub planned_crowded : (a b : List State) (requests : List RenameRequest) (names : List (List ℕ)) (numbers : List ℕ) (i : ℕ) (request : RenameRequest) → i < length requests → request ≡ get_or requests i request
    → length numbers ≡ i → b ≡ a → PlannedFrom a requests names numbers i → FitIs b names request None
    → Now a (λ s. planned (free_in s) (map wanted_of requests) ≡ Err i)
planned_crowded a b requests names numbers i request h is count same from found =
    let next = (next_of wanted_of requests i request h is).1 in
    let e : length numbers + 0 ≡ i = omega arith in
    now_both _ _ _ a b same from found (λ s x y.
    x ∙ ap (λ ws. with_numbers numbers (planned_after (free_in s) names ws)) next
    ∙ ap (with_numbers numbers) (after_none (free_in s) names (wanted_of request) (drop (i + 1) (map wanted_of requests)) y)
    ∙ ap (λ n. Err n) e)
