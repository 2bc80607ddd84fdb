-- Fields that are not set.
use Rattle.std.proofs.Common.{◌≡◌, ◌<◌, ◌+◌, ◌-◌, ◌∙◌, ℕ, suc, true, false, Bool, List, [], ◌∷◌, ◌++◌, length, get_or, take, drop, drop-cons, Result, Ok, Err, if◌then◌else◌, sym, ap, subst, arith}
use Rattle.std.proofs.lemmas.List.{length-drop, take_all}
use Rattle.exif_types.specs.declared.field.Field.{Field}
use Rattle.exif_edit_base.specs.Causes.{Cause}
use Rattle.exif_edit_base.specs.Causes as causes
use Rattle.exif_assign.specs.declared.assignment.Assignment.{Assignment}
use Rattle.exif_setting.specs.InPlace.{field_set, fit_by, fit_one, fitting_set, needs_space}
use Rattle.exif_change.specs.Refusals.{Fails, Reason, as_edited, editing}
use Rattle.exif_setting.specs.Setting.{assigned_behind, with_assigned}
use Rattle.exif_change.specs.declared.refusal.Refusal.{Refusal}
use Rattle.exif_change.proofs.Steps.{refused_on, refused_then}

-- an answer is no refusal
ok_err : {A : Type 0} (x : A) (why : Reason) → ◌≡◌ {A = Result A Reason} (Ok x) (Err why) → ⊥
ok_err x why e = cc

-- where a value is refused, it is so whatever is left over
fits_refused : (field : Field) (answer : Result (List ℕ) Cause) (file : List ℕ) (left : List Field) (why : Reason)
    → as_edited (fit_by field answer (file, [])) ≡ Err why → as_edited (fit_by field answer (file, left)) ≡ Err why
fits_refused field (Ok new) file left why e = let made : List ℕ × List Field = (new, []) in absurd (ok_err made why e)
fits_refused field (Err cause) file left why e = by_test (needs_space cause) e
  where
    by_test : (b : Bool) → as_edited {A = List ℕ × List Field} (if b then Ok (file, [] ++ field ∷ []) else Err cause) ≡ Err why
        → as_edited {A = List ℕ × List Field} (if b then Ok (file, left ++ field ∷ []) else Err cause) ≡ Err why
    by_test true e = let made : List ℕ × List Field = (file, field ∷ []) in absurd (ok_err made why e)
    by_test false e = e

pub fit_refused : (field : Field) (file : List ℕ) (left : List Field) (e : Refusal)
    → Fails e (as_edited (fit_one field (file, []))) → Fails e (as_edited (fit_one field (file, left)))
fit_refused field file left e h =
    refused_on e (as_edited (fit_one field (file, []))) (as_edited (fit_one field (file, left))) h
    (λ why is. fits_refused field (field_set field file) file left why is)

-- a refused field ends the setting of all
edited_then : {A B : Type 0} (x : Result A Cause) (f : A → Result B Cause) (why : Reason) → as_edited x ≡ Err why → as_edited (causes.◌>>=◌ x f) ≡ Err why
edited_then (Ok a) f why is = absurd (ok_err a why is)
edited_then {A = A} {B = B} (Err c) f why is =
    let again : Result A Reason → Result B Reason = λ r. elim r [ Ok a ↦ Err (editing c) | Err w ↦ Err w ] in
    ap again is

pub fits_stop : (fields rest : List Field) (field : Field) (made : List ℕ × List Field) (all : Result (List ℕ × List Field) Cause) (e : Refusal)
    → fields ≡ field ∷ rest → fitting_set fields made ≡ all → Fails e (as_edited (fit_one field made)) → Fails e (as_edited all)
fits_stop fields rest field made all e is whole h =
    let first : fitting_set (field ∷ rest) made ≡ all = ap (λ fs. fitting_set fs made) (sym is) ∙ whole in
    subst (λ r. Fails e (as_edited r)) first
    (refused_on e (as_edited (fit_one field made)) (as_edited (fitting_set (field ∷ rest) made)) h
    (λ why stops. edited_then (fit_one field made) (fitting_set rest) why stops))

-- all assignments behind an index, as a slice
behind : (all : List Assignment) (i : ℕ) → take (length all - (i + 1)) (drop (i + 1) all) ≡ drop (i + 1) all
behind all i =
    let l = length-drop (i + 1) all in
    take_all (length all - (i + 1)) (drop (i + 1) all) (omega (arith, l))

-- a refused assignment ends that of all
pub assigned_refused : (fields : List Field) (all : List Assignment) (i : ℕ) (d : Assignment) (sets : List Field × List Field) (e : Refusal) → i < length all
    → assigned_behind fields (drop i all) sets ≡ assigned_behind fields all ([], [])
    → Fails e (with_assigned fields (get_or all i d) (take (length all - (i + 1)) (drop (i + 1) all)) sets)
    → Fails e (assigned_behind fields all ([], []))
assigned_refused fields all i d sets e h whole refused =
    let next : i + 1 ≡ suc i = omega arith in
    let there : drop i all ≡ get_or all i d ∷ drop (i + 1) all = rw next (drop-cons all i d h) in
    let refused' : Fails e (with_assigned fields (get_or all i d) (drop (i + 1) all) sets) =
    subst (λ later. Fails e (with_assigned fields (get_or all i d) later sets)) (behind all i) refused in
    subst (Fails e) (sym (ap (λ those. assigned_behind fields those sets) there) ∙ whole)
    (refused_then e (with_assigned fields (get_or all i d) (drop (i + 1) all) sets) (assigned_behind fields (drop (i + 1) all)) refused')
