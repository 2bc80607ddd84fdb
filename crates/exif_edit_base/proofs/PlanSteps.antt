-- The steps of trying a plan.
use Rattle.std.proofs.Common.{◌≡◌, Bool, true, false, ℕ, List, length, All, Result, Ok, Err, refl, sym, ap, subst, ◌∙◌}
use Rattle.std.specs.Prelude.{if◌then◌else◌, OnOk}
use Rattle.exif_edit_base.specs.Causes.{Cause, Edits, shared, ◌>>=◌}
use Rattle.exif_edit_base.specs.Patches.{FitsIn, patched, put_back, swapped}
use Rattle.exif_edit_base.specs.declared.error.Error.{Error}
use Rattle.exif_edit_base.specs.declared.patch.Patch.{Patch}
use Rattle.exif_edit_base.proofs.CauseSteps.{bound, ok_same}
use Rattle.exif_edit_base.proofs.PatchSteps.{fit_in, length-patched}
use Rattle.exif_edit_base.proofs.PutBack.{bytes_put_back, swapped_fit}
use Rattle.exif_edit_base.specs.Plans.{carried_out, if_read, is_read, planned}
use Rattle.exif_edit_base.specs.declared.plan.Plan.{Plan}
use Rattle.exif_edit_base.specs.declared.plan.Wanted.TheVariants.{Anything}

-- the answer is what the patches make
pub answer_made : (f : Result (List Patch) Cause) (bytes : List ℕ) (ps : List Patch) → f ≡ Ok ps
    → (f >>= λ qs. Ok (patched qs bytes)) ≡ Ok (patched ps bytes)
answer_made f bytes ps h = rw h refl

-- where the patches are refused, the edited data are refused for the same cause
pub answer_refused : (f : Result (List Patch) Cause) (bytes : List ℕ) (c : Cause) → f ≡ Err c
    → ◌≡◌ {A = Result (List ℕ) Cause} (f >>= λ qs. Ok (patched qs bytes)) (Err c)
answer_refused f bytes c h = rw h refl

-- where nothing is wanted the patches are the answer
pub any_planned : (bytes : List ℕ) (plan : Plan) → plan.wanted ≡ Anything
    → planned bytes plan ≡ Ok plan.patches.items
unfolding planned
any_planned bytes plan e =
    ap (λ w. if_read w bytes plan.patches.items) e

-- what is answered, as what the patches make is read or not
pub read_planned : (bytes new : List ℕ) (plan : Plan) (b : Bool)
    → new ≡ patched plan.patches.items bytes → b ≡ is_read new plan.wanted
    → (b ≡ true → planned bytes plan ≡ Ok plan.patches.items)
    × (b ≡ false → planned bytes plan ≡ Err shared)
unfolding planned
read_planned bytes new plan b n e =
    let q : b ≡ is_read (patched plan.patches.items bytes) plan.wanted =
    e ∙ ap (λ xs. is_read xs plan.wanted) n in (
      λ y. by_test (is_read (patched plan.patches.items bytes) plan.wanted) true (sym q ∙ y),
      λ y. by_test (is_read (patched plan.patches.items bytes) plan.wanted) false (sym q ∙ y),
    )
  where
    by_test : (x c : Bool) → x ≡ c
        → ◌≡◌ {A = Result (List Patch) Cause} (if x then Ok plan.patches.items else Err shared)
        (if c then Ok plan.patches.items else Err shared)
    by_test x c e = ap (λ y. if y then Ok plan.patches.items else Err shared) e

-- a plan gives what its patches make if that is read as wanted, and else is refused as shared
pub read_carried : (bytes new : List ℕ) (plan : Plan) (b : Bool)
    → new ≡ patched plan.patches.items bytes → b ≡ is_read new plan.wanted
    → (b ≡ true → carried_out bytes plan ≡ Ok new)
    × (b ≡ false → carried_out bytes plan ≡ Err shared)
read_carried bytes new plan b n e =
    let r = read_planned bytes new plan b n e in (
      λ y. answer_made (planned bytes plan) bytes plan.patches.items (r.0 y)
          ∙ ap (λ xs. Ok xs) (sym n),
      λ y. answer_refused (planned bytes plan) bytes shared (r.1 y),
    )

-- patches exchanged with the bytes that they lie in lie in them still
pub exchanged_within : (ps qs : List Patch) (bytes new : List ℕ) → All (FitsIn (length bytes)) ps
    → new ≡ patched ps bytes → qs ≡ swapped ps bytes → All (FitsIn (length new)) qs
exchanged_within ps qs bytes new h n e =
    rw (e, n)
    (fit_in (length bytes) (length (patched ps bytes)) (swapped ps bytes)
    (sym (length-patched ps bytes h)) (swapped_fit ps bytes h))

-- and put back leave the bytes as they were
pub exchanged_back : (ps qs : List Patch) (bytes new old : List ℕ) → All (FitsIn (length bytes)) ps
    → new ≡ patched ps bytes → qs ≡ swapped ps bytes → old ≡ put_back qs new → old ≡ bytes
exchanged_back ps qs bytes new old h n e o = o ∙ (rw (e, n) (bytes_put_back ps bytes h))

-- what is promised of the data that an edit answers holds of those that were carried out
pub carried_sound : (P : List ℕ → Type 0) (x : Result (Unit {0}) Error) (bytes new : List ℕ)
    (plan : Plan) (answer : Result (List Patch) Cause) → planned bytes plan ≡ answer
    → Edits x bytes new (carried_out bytes plan)
    → ((ps : List Patch) → answer ≡ Ok ps → P (patched ps bytes))
    → OnOk x (P new)
carried_sound P (Err e) bytes new plan answer p h k = tt
carried_sound P (Ok u) bytes new plan answer p h k =
    let b = bound (planned bytes plan) (λ ps. Ok (patched ps bytes)) new h in
    subst P (ok_same (patched b.0 bytes) new b.2) (k b.0 (sym p ∙ b.1))
