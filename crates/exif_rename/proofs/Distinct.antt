-- Why no two files get one path, and none is overwritten.
use Rattle.std.specs.Prelude.{if◌then◌else◌}
use Rattle.std.proofs.Common.{◌≡◌, ℕ, ◌+◌, suc, zero, List, [], ◌∷◌, ◌++◌, Bool, true, false, not, ◌&&◌, ◌||◌, cond, Option, Some, None, Result, Ok, Err, ap, refl, subst, ◌∙◌, length, map}
use Rattle.std.specs.Str.{bytes_eq}
use Rattle.exif_files.specs.Each.{is_among}
use Rattle.exif_rename.specs.Apart.{AreToFree, DifferAfter, all_moves, paths_by}
use Rattle.exif_rename.specs.Planned.{can_have, chosen, fit, fit_from, fits, kept_or, own, planned_after, with_number, with_paths}
use Rattle.exif_rename.specs.RenameRequests.{File, Wanted, candidate, moves_by, moves_in, path_of}

both : (a b : Bool) → (a && b) ≡ true → (a ≡ true) × (b ≡ true)
both true b h = (refl, h)
both false b h = cc

not_true : (a : Bool) → not a ≡ true → a ≡ false
not_true true h = cc
not_true false h = refl

-- the first candidate that all the files can have is one that they can have
found_fits : (free : List ℕ → Bool) (given : List (List ℕ)) (wanted : Wanted) (tries number found : ℕ) → fit_from free given wanted tries number ≡ Some found
    → fits free given (candidate wanted.base found) wanted.files ≡ true
unfolding fit_from
found_fits free given wanted zero number found h = cc
found_fits free given wanted (suc tries) number found h =
    let f : (b : Bool) → fits free given (candidate wanted.base number) wanted.files ≡ b → elim b [ true ↦ Some number | false ↦ fit_from free given wanted tries (number + 1) ] ≡ Some found
    → fits free given (candidate wanted.base found) wanted.files ≡ true = λ b.
    elim b as (λ v. fits free given (candidate wanted.base number) wanted.files ≡ v → elim v [ true ↦ Some number | false ↦ fit_from free given wanted tries (number + 1) ] ≡ Some found
    → fits free given (candidate wanted.base found) wanted.files ≡ true) [
      | true ↦ λ is e. let same : number ≡ found = cc in subst (λ (n : ℕ). fits free given (candidate wanted.base n) wanted.files ≡ true) same is
      | false ↦ λ is e. found_fits free given wanted tries (number + 1) found e
    ] in
    f (fits free given (candidate wanted.base number) wanted.files) refl h

-- so is the one that a request gets
chosen_fits : (free : List ℕ → Bool) (given : List (List ℕ)) (wanted : Wanted) (number : ℕ) → chosen free given wanted ≡ Some number
    → fits free given (candidate wanted.base number) wanted.files ≡ true
chosen_fits free given wanted number h = kept (own wanted) h
  where
    whether : (had : ℕ) (b : Bool) → fits free given (candidate wanted.base had) wanted.files ≡ b → (if b then Some had else fit free given wanted) ≡ Some number
        → fits free given (candidate wanted.base number) wanted.files ≡ true
    whether had true is e = let same : had ≡ number = cc in subst (λ (n : ℕ). fits free given (candidate wanted.base n) wanted.files ≡ true) same is
    whether had false is e = found_fits free given wanted 100000 0 number e

    kept : (had : Option ℕ) → kept_or free given wanted had ≡ Some number → fits free given (candidate wanted.base number) wanted.files ≡ true
    kept None e = found_fits free given wanted 100000 0 number e
    kept (Some had) e = whether had (fits free given (candidate wanted.base had) wanted.files) refl e

-- what a plan of a request and others says of them
pub record Parts (free : List ℕ → Bool) (given : List (List ℕ)) (wanted : Wanted) (rest : List Wanted) (numbers : List ℕ) : Type 0 where
  pub number : ℕ
  pub others : List ℕ
  pub are : numbers ≡ number ∷ others
  pub fit : fits free given (candidate wanted.base number) wanted.files ≡ true
  pub after : planned_after free (with_paths (candidate wanted.base number) wanted.files given) rest ≡ Ok others

numbered : (free : List ℕ → Bool) (given : List (List ℕ)) (wanted : Wanted) (rest : List Wanted) (number : ℕ) (numbers : List ℕ) (r : Result (List ℕ) ℕ)
    → fits free given (candidate wanted.base number) wanted.files ≡ true
    → planned_after free (with_paths (candidate wanted.base number) wanted.files given) rest ≡ r → with_number number r ≡ Ok numbers → Parts free given wanted rest numbers
numbered free given wanted rest number numbers (Ok others) is e h = record { number = number; others = others; are = cc; fit = is; after = e }
numbered free given wanted rest number numbers (Err n) is e h = cc

parts_of : (free : List ℕ → Bool) (given : List (List ℕ)) (wanted : Wanted) (rest : List Wanted) (numbers : List ℕ) (found : Option ℕ) → chosen free given wanted ≡ found
    → ◌≡◌ {A = Result (List ℕ) ℕ} (elim found [ None ↦ Err 0 | Some number ↦ with_number number (planned_after free (with_paths (candidate wanted.base number) wanted.files given) rest) ]) (Ok numbers)
    → Parts free given wanted rest numbers
parts_of free given wanted rest numbers None e h = cc
parts_of free given wanted rest numbers (Some number) e h =
    numbered free given wanted rest number numbers _ (chosen_fits free given wanted number e) refl h

parts : (free : List ℕ → Bool) (given : List (List ℕ)) (wanted : Wanted) (rest : List Wanted) (numbers : List ℕ) → planned_after free given (wanted ∷ rest) ≡ Ok numbers → Parts free given wanted rest numbers
parts free given wanted rest numbers h = parts_of free given wanted rest numbers (chosen free given wanted) refl h

-- the paths of files that fit differ, and so do those that come after
differ_in : (free : List ℕ → Bool) (name : List ℕ) (files : List File) (given others : List (List ℕ)) → fits free given name files ≡ true → DifferAfter (with_paths name files given) others
    → DifferAfter given (map (path_of name) files ++ others)
differ_in free name [] given others h after = after
differ_in free name (file ∷ files) given others h after =
    let now = both (can_have free given (path_of name file) file) (fits free (path_of name file ∷ given) name files) h in
    let can = both (not (is_among (path_of name file) given)) (bytes_eq (path_of name file) file.old || free (path_of name file)) now.0 in
    (not_true (is_among (path_of name file) given) can.0, differ_in free name files (path_of name file ∷ given) others now.1 after)

pub differ : (free : List ℕ → Bool) (given : List (List ℕ)) (requests : List Wanted) (numbers : List ℕ) → planned_after free given requests ≡ Ok numbers → DifferAfter given (paths_by requests numbers)
differ free given [] numbers h = tt
differ free given (wanted ∷ rest) [] h = let p = parts free given wanted rest [] h in let none = p.are in cc
differ free given (wanted ∷ rest) (number ∷ numbers) h =
    let p = parts free given wanted rest (number ∷ numbers) h in
    let same : p.number ≡ number = let e = p.are in cc in
    let others : p.others ≡ numbers = let e = p.are in cc in
    let P : ℕ → List ℕ → Type 0 = λ n ns. DifferAfter given (map (path_of (candidate wanted.base n)) wanted.files ++ paths_by rest ns) in
    subst (λ (n : ℕ). P n numbers) same (subst (P p.number) others
    (differ_in free (candidate wanted.base p.number) wanted.files given (paths_by rest p.others) p.fit (differ free (with_paths (candidate wanted.base p.number) wanted.files given) rest p.others p.after)))

-- the moves of files that fit are to free paths
move_free : (free : List ℕ → Bool) (path old : List ℕ) (own : Bool) (rest : List (List ℕ × List ℕ)) → bytes_eq path old ≡ own → (own || free path) ≡ true → AreToFree free rest
    → AreToFree free (cond own rest ((old, path) ∷ rest))
move_free free path old true rest e h all = all
move_free free path old false rest e h all = (h, all)

all_append : (free : List ℕ → Bool) (xs ys : List (List ℕ × List ℕ)) → AreToFree free xs → AreToFree free ys → AreToFree free (xs ++ ys)
all_append free [] ys a b = b
all_append free (x ∷ xs) ys a b = (a.0, all_append free xs ys a.1 b)

free_in_moves : (free : List ℕ → Bool) (name : List ℕ) (files : List File) (given : List (List ℕ)) → fits free given name files ≡ true → AreToFree free (moves_in name files)
free_in_moves free name [] given h = tt
free_in_moves free name (file ∷ files) given h =
    let now = both (can_have free given (path_of name file) file) (fits free (path_of name file ∷ given) name files) h in
    let can = both (not (is_among (path_of name file) given)) (bytes_eq (path_of name file) file.old || free (path_of name file)) now.0 in
    move_free free (path_of name file) file.old (bytes_eq (path_of name file) file.old) (moves_in name files) refl can.1 (free_in_moves free name files (path_of name file ∷ given) now.1)

pub to_free : (free : List ℕ → Bool) (given : List (List ℕ)) (requests : List Wanted) (numbers : List ℕ) → planned_after free given requests ≡ Ok numbers → AreToFree free (all_moves requests numbers)
to_free free given [] numbers h = tt
to_free free given (wanted ∷ rest) [] h = tt
to_free free given (wanted ∷ rest) (number ∷ numbers) h =
    let p = parts free given wanted rest (number ∷ numbers) h in
    let same : p.number ≡ number = let e = p.are in cc in
    let others : p.others ≡ numbers = let e = p.are in cc in
    let P : ℕ → List ℕ → Type 0 = λ n ns. AreToFree free (moves_by wanted n ++ all_moves rest ns) in
    subst (λ (n : ℕ). P n numbers) same (subst (P p.number) others
    (all_append free (moves_by wanted p.number) (all_moves rest p.others) (free_in_moves free (candidate wanted.base p.number) wanted.files given p.fit)
    (to_free free (with_paths (candidate wanted.base p.number) wanted.files given) rest p.others p.after)))

pub as_many : (free : List ℕ → Bool) (given : List (List ℕ)) (requests : List Wanted) (numbers : List ℕ) → planned_after free given requests ≡ Ok numbers → length numbers ≡ length requests
as_many free given [] numbers h = let none : numbers ≡ [] = cc in ap length none
as_many free given (wanted ∷ rest) numbers h =
    let p = parts free given wanted rest numbers h in
    ap length p.are ∙ ap suc (as_many free (with_paths (candidate wanted.base p.number) wanted.files given) rest p.others p.after)
