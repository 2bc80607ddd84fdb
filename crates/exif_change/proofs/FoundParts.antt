-- What is found in a new file: where nothing was left, nothing was found; and what was found was left.
use Rattle.std.proofs.Common.{◌≡◌, ◌∙◌, ℕ, Bool, List, [], ◌∷◌, ◌++◌, map, All, Contains, slice_index_or, Option, Some, None, Result, Ok, Err, refl, sym, ap, subst}
use Rattle.std.proofs.lemmas.List.Elements.{Contains-append_left, Contains-append_right}
use Rattle.exif_inventory.specs.declared.part.Part.{Part}
use Rattle.exif_lengths.specs.Walks.{measured_inventory}
use Rattle.exif_change.specs.Changed.{Change, Undone, still_there, whole}
use Rattle.exif_change.specs.Found.{foreign, found_in, IsAnswered, with_found, with_parts}
use Rattle.exif_change.specs.Refusals.{Reason}
use Rattle.exif_change.proofs.FoundAll.{contains_map, foreign_all}

no_ok : {X : Type 0} (why : Reason) (x : X) → ◌≡◌ {A = Result X Reason} (Err why) (Ok x) → ⊥
no_ok why x e = cc

-- a change that left no part, and nothing else, is whole
pub with_parts_whole : (parts : List Part) (change : Result Change Reason) (new : List ℕ) → with_parts parts change ≡ Ok (whole new) → change ≡ Ok (whole new)
with_parts_whole parts (Err why) new e = absurd (no_ok why (whole new) e)
with_parts_whole parts (Ok change) new e = ap (λ (c : Change). let y : Result Change Reason = Ok c in y) same
  where
    joined : change.undone ++ map (λ part. Some (still_there part)) parts ≡ []
    joined = ap (λ (x : Result Change Reason). elim x [ Ok c ↦ c.undone | Err why ↦ [] ]) e

    front : {X : Type 0} (xs ys : List X) → xs ++ ys ≡ [] → xs ≡ []
    front [] ys h = refl
    front (x ∷ xs) ys h = absurd (cc)

    file_is : change.file ≡ new
    file_is = ap (λ (x : Result Change Reason). elim x [ Ok c ↦ c.file | Err why ↦ new ]) e

    same : change ≡ whole new
    same = ap (λ (f : List ℕ). record { file = f; undone = change.undone }) file_is ∙ ap (λ (u : List (Option Undone)). record { file = new; undone = u }) (front change.undone _ joined)

-- and so is one in which nothing was found
pub with_found_whole : (put : Bool) (change : Result Change Reason) (new : List ℕ) → with_found put change ≡ Ok (whole new) → change ≡ Ok (whole new)
with_found_whole put (Err why) new e = absurd (no_ok why (whole new) e)
with_found_whole put (Ok change) new e = with_parts_whole (found_in put change.file) (Ok change) new e

-- each part of the new file that does not belong there is among what was left
pub found_answered : (put : Bool) (made : Result Change Reason) (change : Change) (parts : List Part) → with_found put made ≡ Ok change → measured_inventory change.file ≡ Some parts
    → All (IsAnswered put change.undone) parts
found_answered put (Err why) change parts e is = absurd (no_ok why change e)
found_answered put (Ok old) change parts e is = λ k d below no.
    subst (λ (us : List (Option Undone)). Contains us (said (slice_index_or parts k d))) undone_is
    (Contains-append_right old.undone (map said (found_in put old.file)) (said (slice_index_or parts k d))
    (contains_map said (found_in put old.file) (slice_index_or parts k d)
    (subst (λ (ps : List Part). Contains ps (slice_index_or parts k d)) (sym found_is) (foreign_all put parts [] k d below no))))
  where
    said : Part → Option Undone
    said part = Some (still_there part)

    file_is : old.file ≡ change.file
    file_is = ap (λ (x : Result Change Reason). elim x [ Ok c ↦ c.file | Err why ↦ [] ]) e

    undone_is : old.undone ++ map said (found_in put old.file) ≡ change.undone
    undone_is = ap (λ (x : Result Change Reason). elim x [ Ok c ↦ c.undone | Err why ↦ [] ]) e

    found_is : found_in put old.file ≡ foreign put parts []
    found_is =
        ap (λ (o : Option (List Part)). elim o as (λ _. List Part) [ Some parts ↦ foreign put parts [] | None ↦ [] ])
        (ap measured_inventory file_is ∙ is)

-- where more was left of the same file, they still are
pub still_answered : (put : Bool) (old change : Change) (more : List (Option Undone)) (parts : List Part)
    → old.file ≡ change.file → old.undone ++ more ≡ change.undone
    → (measured_inventory old.file ≡ Some parts → All (IsAnswered put old.undone) parts)
    → measured_inventory change.file ≡ Some parts → All (IsAnswered put change.undone) parts
still_answered put old change more parts file_is undone_is all is = λ k d below no.
    subst (λ (us : List (Option Undone)). Contains us (Some (still_there (slice_index_or parts k d)))) undone_is
    (Contains-append_left old.undone more (Some (still_there (slice_index_or parts k d)))
    (all (ap measured_inventory file_is ∙ is) k d below no))

pub more_answered : (put : Bool) (more : List Part) (made : Result Change Reason) (change : Change) (parts : List Part)
    → ((c : Change) → made ≡ Ok c → measured_inventory c.file ≡ Some parts → All (IsAnswered put c.undone) parts)
    → with_parts more made ≡ Ok change → measured_inventory change.file ≡ Some parts → All (IsAnswered put change.undone) parts
more_answered put more (Err why) change parts all e is = absurd (no_ok why change e)
more_answered put more (Ok old) change parts all e is =
    still_answered put old change (map (λ part. Some (still_there part)) more) parts
    (ap (λ (x : Result Change Reason). elim x [ Ok c ↦ c.file | Err why ↦ [] ]) e)
    (ap (λ (x : Result Change Reason). elim x [ Ok c ↦ c.undone | Err why ↦ [] ]) e)
    (all old refl) is
