-- What is made of wanted fields, and what it is read back as.
use Rattle.std.proofs.Common.{◌≡◌, ℕ, ◌≤◌, ◌||◌, Bool, true, false, List, [], ◌∷◌, length, Option, None, Some, Result, Ok, Err, IfSome, MatchOption, if◌then◌else◌, refl, sym, subst, ap, ◌∙◌, arith}
use Rattle.std.specs.List.{All, filter, list_any}
use Rattle.exif_base.specs.declared.endian.Order.{Order}
use Rattle.exif_types.specs.Failures.{Failure}
use Rattle.exif_types.specs.Refusals.{Fails, IsInterrupted, Refusal, refusal_of}
use Rattle.exif_types.specs.Sound.{IsRead}
use Rattle.exif_types.specs.declared.field.Field.{Field}
use Rattle.exif_layout.specs.Flat.{flat}
use Rattle.exif_layout.specs.Groups.{Group}
use Rattle.exif_layout.specs.Image.{image}
use Rattle.exif_layout.specs.Pushing.{HasPushedAlone, HoldsInTagOrder, PushesFew, PushesPlainTexts}
use Rattle.exif_layout.specs.Ranged.{HavePlainTexts}
use Rattle.exif_layout.specs.ReadBack.{ReadsBack}
use Rattle.exif_layout.specs.Refused.{write_fault}
use Rattle.exif_layout.specs.Rewriting.{pushed_all}
use Rattle.exif_layout.specs.WriteFaults.{write_refusal}
use Rattle.exif_layout.specs.declared.write_fault.WriteFault.{WriteFault}
use Rattle.exif_rewrite.specs.ScrubbedExif.{ReadsAs, image_or, scrubbed_answer}
use Rattle.exif_segments.proofs.Interruptions.{interrupted_none}

-- nothing is wanted where no field is
pub none_wanted : {X : Type 0} (p : X → Bool) (xs : List X) → list_any p xs ≡ false → filter p xs ≡ []
none_wanted p [] h = refl
none_wanted p (x ∷ xs) h = by (p x) (none_wanted p xs) h
  where
    by : (b : Bool) → (list_any p xs ≡ false → filter p xs ≡ []) → (b || list_any p xs) ≡ false → (if b then x ∷ filter p xs else filter p xs) ≡ []
    by true next h = absurd (cc)
    by false next h = next h

-- something is wanted where a field is
pub some_wanted : {X : Type 0} (p : X → Bool) (xs : List X) → list_any p xs ≡ true → filter p xs ≡ [] → ⊥
some_wanted p [] h e = cc
some_wanted p (x ∷ xs) h e = by (p x) (some_wanted p xs) h e
  where
    by : (b : Bool) → (list_any p xs ≡ true → filter p xs ≡ [] → ⊥) → (b || list_any p xs) ≡ true → (if b then x ∷ filter p xs else filter p xs) ≡ [] → ⊥
    by true next h e = cc
    by false next h e = next h e

-- an image that was written
pub scrubbed_whole : (order : Order) (fields : List Field) (groups : List Group) (items : List ℕ)
    → groups ≡ pushed_all fields [] → items ≡ image order groups → write_fault groups ≡ None → scrubbed_answer order fields ≡ Ok (Some items)
unfolding write_fault
scrubbed_whole order [] groups items is made h =
    let none : write_fault [] ≡ None = subst (λ t. write_fault t ≡ None) is h in
    absurd (cc)
scrubbed_whole order (field ∷ fields) groups items is made h =
    let none : write_fault (pushed_all (field ∷ fields) []) ≡ None = subst (λ t. write_fault t ≡ None) is h in
    ap (λ o. image_or o (image order (pushed_all (field ∷ fields) []))) none ∙ ap (λ t. Ok (Some t)) (sym (made ∙ ap (image order) is))

-- an image that was not written
pub scrubbed_fails : (order : Order) (fields : List Field) (groups : List Group) (e : Failure)
    → groups ≡ pushed_all fields [] → (fields ≡ [] → ⊥)
    → IfSome (write_fault groups) (λ cause. refusal_of e ≡ Some (write_refusal cause))
    → (write_fault groups ≡ None → IsInterrupted e)
    → Fails e (scrubbed_answer order fields)
scrubbed_fails order [] groups e is some r i = absurd (some refl)
scrubbed_fails order (field ∷ fields) groups e is some r i = by (write_fault (pushed_all (field ∷ fields) [])) refl
    (subst (λ t. IfSome (write_fault t) (λ cause. refusal_of e ≡ Some (write_refusal cause))) is r) (subst (λ t. write_fault t ≡ None → IsInterrupted e) is i)
  where
    by : (o : Option WriteFault) → write_fault (pushed_all (field ∷ fields) []) ≡ o → IfSome o (λ cause. refusal_of e ≡ Some (write_refusal cause)) → (o ≡ None → IsInterrupted e)
        → Fails e (scrubbed_answer order (field ∷ fields))
    by None f r i = subst (λ o. MatchOption o (IsInterrupted e) (λ r. scrubbed_answer order (field ∷ fields) ≡ Err r)) (sym (interrupted_none e (i refl))) (i refl)
    by (Some cause) f r i =
        subst (λ o. MatchOption o (IsInterrupted e) (λ r. scrubbed_answer order (field ∷ fields) ≡ Err r)) (sym r)
        (ap (λ o. image_or o (image order (pushed_all (field ∷ fields) []))) f)

-- an error with the same refusal, where an interruption stays one
pub fails_same : {Y : Type 0} (e e' : Failure) (answer : Result Y Refusal) → refusal_of e' ≡ refusal_of e → (IsInterrupted e → IsInterrupted e') → Fails e answer → Fails e' answer
fails_same e e' answer r i h = subst (λ t. MatchOption t (IsInterrupted e') (λ r. answer ≡ Err r)) (sym r) (by (refusal_of e) h)
  where
    by : (t : Option Refusal) → MatchOption t (IsInterrupted e) (λ r. answer ≡ Err r) → MatchOption t (IsInterrupted e') (λ r. answer ≡ Err r)
    by None h = i h
    by (Some r) h = h

-- what it is read back as
pub scrubbed_reads : (order : Order) (fields : List Field) (groups : List Group) (items : List ℕ)
    → groups ≡ pushed_all fields [] → items ≡ image order groups → All IsRead fields
    → PushesPlainTexts fields [] → PushesFew 8 fields [] → HasPushedAlone fields → HoldsInTagOrder fields
    → (HavePlainTexts groups → length groups ≤ 8 → ReadsBack order groups)
    → ReadsAs fields items
scrubbed_reads order fields groups items is made read plain few alone sorted back =
    let P : HavePlainTexts (pushed_all fields []) = plain (λ k d h. (read k d h).plain) tt in
    let F : length (pushed_all fields []) ≤ 8 = few (λ k d h. (read k d h).number) (omega arith) in
    let B : ReadsBack order (pushed_all fields []) = (subst (λ t. HavePlainTexts t → length t ≤ 8 → ReadsBack order t) is back) P F in
    record {
      read = flat (pushed_all fields []);
      whole = λ lenient. rw (made, is) (B lenient);
      each = alone;
      sorted = sorted;
    }
