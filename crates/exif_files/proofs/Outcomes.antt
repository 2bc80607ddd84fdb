-- What becomes of a file in a run.
use Rattle.std.proofs.Common.{◌≡◌, ◌⊎◌, ℕ, List, Bool, false, Option, None, Some, ap, subst, ◌∙◌, inl, inr, Result, Ok, Err, OnOk, OnErr}
use Rattle.std.specs.Prelude.{IfErr, IfOk}
use Rattle.exif_files.specs.declared.outcome.Status.{Status}
use Rattle.exif_files.specs.declared.outcome.Status.TheVariants.{Refused}
use Rattle.exif_files.specs.declared.changing.Failure.{Failure}
use Rattle.exif_files.specs.States.{Entry, Holds, Now, State, Run}
use Rattle.exif_files.specs.Statuses.{status_for}
use Rattle.exif_files.specs.Names.{OthersKept}
use Rattle.exif_files.specs.Changed.{HasAnswer, IsWholeChange, IsChanged, IsNotChanged, IsOutcome}
use Rattle.exif_files.specs.Failed.{FailedInWriting}
use Rattle.exif_files.proofs.Runs.{run_begin, run_then, run_weaker}

module _ (answer : List ℕ → List ℕ → Type 0) (name : List ℕ) (backup : Option (List ℕ)) (times calm : Bool) where
  -- nothing is said of the owner
  answer_quiet : (s t : State) → HasAnswer answer name times calm s t → HasAnswer answer name times false s t
  answer_quiet s t h =
      let f = h.2 in
      let like = f.2.1 in
      (h.0, h.1, (f.0, f.1, (f.2.0, record { same_mode = like.same_mode; same_times = like.same_times; same_owner = λ e. cc })))

  file_quiet : (s t : State) → (t.at name ≡ s.at name) ⊎ HasAnswer answer name times calm s t → (t.at name ≡ s.at name) ⊎ HasAnswer answer name times false s t
  file_quiet s t (inl same) = inl same
  file_quiet s t (inr h) = inr (answer_quiet s t h)

  whole_quiet : (s t : State) → IsWholeChange answer name backup times calm s t → IsWholeChange answer name backup times false s t
  whole_quiet s t h = record { file = file_quiet s t h.file; others = h.others }

  changed_others : (s t : State) → IsChanged answer name backup times calm s t → ((b : List ℕ) → backup ≡ Some b → (t.at b ≡ s.at name) × (s.at b ≡ None)) ⊎ ((n : List ℕ) → t.at n ≡ s.at n) → OthersKept backup name s t
  changed_others s t h (inl kept) = λ n ne fresh. h.others n ne (λ e. fresh (record { free = (kept n e).1; own = inr e }))
  changed_others s t h (inr same) = λ n ne fresh. same n

  changed_whole : (s t : State) → IsChanged answer name backup times calm s t → IsWholeChange answer name backup times calm s t
  changed_whole s t h = record { file = inr h.file; others = changed_others s t h h.kept_as }

  not_changed_whole : (twice : Type 0) (s t : State) → IsNotChanged answer name backup times calm twice s t → IsWholeChange answer name backup times calm s t
  not_changed_whole twice s t (inl same) = record { file = inl (same name); others = λ n ne fresh. same n }
  not_changed_whole twice s t (inr (inl h)) = changed_whole s t h
  not_changed_whole twice s t (inr (inr (left, both))) = record { file = inl left.same; others = λ n ne fresh. left.others n fresh }

  pub run_outcome : {T R : Type 0} (undone : List ℕ → ℕ) (count : T → ℕ) (r : Result T (Failure R)) (status : Status) (a b : List State) (f f' : ℕ)
      → OnOk r (Run (IsWholeChange answer name backup times calm) (IsChanged answer name backup times calm) a b)
      → IfErr r (λ e. Run (IsWholeChange answer name backup times calm) (IsNotChanged answer name backup times calm (FailedInWriting e f f')) a b)
      → OnErr r (status ≡ Refused)
      → IfOk r (λ x. status ≡ status_for (count x))
      → IfOk r (λ x. Now a (λ s. Holds s name (λ e. count x ≡ undone e.bytes)))
      → Run (IsWholeChange answer name backup times false) (IsOutcome answer name backup times undone status) a b
  run_outcome undone count (Ok x) status a b f f' done failed refused told left =
      run_then (run_begin (IsWholeChange answer name backup times false) (λ s. Holds s name (λ e. count x ≡ undone e.bytes)) a left) done (λ s t h. h)
      (λ s t u begun w. let P : State → Type 0 = λ y. IsWholeChange answer name backup times calm y u in whole_quiet s u (subst P begun.0 w))
      (λ s t u begun h.
      let P : State → Type 0 = λ y. IsChanged answer name backup times calm y u in
      let h' = subst P begun.0 h in
      record { done = λ ne. answer_quiet s u h'.file; is = λ ne old is. told ∙ ap status_for (counted s old begun.1 is); whole = whole_quiet s u (changed_whole s u h') })
    where
      counted : (s : State) (old : Entry) → Holds s name (λ e. count x ≡ undone e.bytes) → s.at name ≡ Some old → count x ≡ undone old.bytes
      counted s old (e, is, same) there =
          let one : e ≡ old = cc in
          same ∙ ap (λ (y : Entry). undone y.bytes) one
  run_outcome undone count (Err e) status a b f f' done failed refused told left =
      run_weaker failed whole_quiet (λ s t h. record { done = λ ne. absurd (ne refused); is = λ ne old is. absurd (ne refused); whole = whole_quiet s t (not_changed_whole (FailedInWriting e f f') s t h) })
