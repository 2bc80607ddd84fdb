-- What the calls make of the states by which a file is filled and gets what another has.
use Rattle.std.proofs.Common.{◌≡◌, ◌≢◌, ℕ, List, [], ◌++◌, Bool, subst, Some, true, false, sym, ap, refl, ◌∙◌, append_assoc, Result, Ok, Err, OnOk, is_err, arith, ◌+◌, ◌-◌, ◌≤◌, length, take, drop, length-drop}
use Rattle.std.proofs.lemmas.List.{append-nil, take_all}
use Rattle.std.proofs.Math.Seq.{take-add}
use Rattle.exif_files.specs.States.{Entry, State, Holds, Elsewhere, Run}
use Rattle.exif_files.specs.Steps.{Appends, Copies, HasOwner, HasMode, HasTimes, Moves, Does, count_after}
use Rattle.exif_files.specs.Written.{none_failed}
use Rattle.exif_files.specs.Parts.{IsAppended, MayHaveOwner, HasTimesIf, HasAccess}
use Rattle.exif_files.proofs.Runs.{run_none, run_one, run_then, run_step}
use Rattle.exif_files.proofs.Counts.{not_calm}

pub elsewhere_then : (name : List ℕ) (s t u : State) → Elsewhere name s t → Elsewhere name t u → Elsewhere name s u
elsewhere_then name s t u a b = λ n ne. b n ne ∙ a n ne

-- no bytes yet
pub appended_none : (name : List ℕ) (s : State) → IsAppended name [] s s
appended_none name s = record { file = λ f is. (f, is, (sym (append-nil f.bytes), refl)); others = λ n ne. refl }

-- some more bytes
pub appended_more : (name xs ys zs : List ℕ) (s t u : State) → zs ≡ xs ++ ys → IsAppended name xs s t → Appends name ys t u → IsAppended name zs s u
appended_more name xs ys zs s t u e a b = record {
  file = λ f is.
      let g = a.file f is in
      let same : b.file.0 ≡ g.0 = cc in
      let bytes : b.file.2.0.bytes ≡ f.bytes ++ zs = b.file.2.2.0 ∙ ap (λ (h : Entry). h.bytes ++ ys) same ∙ ap (λ h. h ++ ys) g.2.0 ∙ append_assoc f.bytes xs ys ∙ ap (λ h. f.bytes ++ h) (sym e) in
      (b.file.2.0, b.file.2.1, (bytes, b.file.2.2.1 ∙ ap (λ (h : Entry). h.mode) same ∙ g.2.1));
  others = elsewhere_then name s t u a.others b.others;
}

-- the bytes as far as one append more
pub next_bytes : (at n : ℕ) (bytes : List ℕ) → n ≤ length (take (length bytes - at) (drop at bytes))
    → take (at + n) bytes ≡ take at bytes ++ take n (take (length bytes - at) (drop at bytes))
next_bytes at n bytes le =
    take-add at n bytes ∙ ap (λ t. take at bytes ++ take n t) (sym (take_all (length bytes - at) (drop at bytes) (omega (arith, length-drop at bytes))))

-- the owner, if the system allowed it
pub run_owner : {T E : Type 0} (r : Result T E) (source name : List ℕ) (a b : List State) (f f' : ℕ) → Does (Copies HasOwner source name) a b f f' r
    → Run (Elsewhere name) (MayHaveOwner source name (none_failed f f')) a b
run_owner (Ok x) source name a b f f' does =
    run_one (Copies HasOwner source name) does.done (λ s t h. h.others)
    (λ s t h. record {
      file = λ g is.
          let same : h.file.0 ≡ g = cc in
          (h.file.4.0, h.file.4.1, (h.file.4.2.0 ∙ ap (λ (x : Entry). x.bytes) same, λ calm. (h.file.2, h.file.3, h.file.4.2.1)));
      others = h.others;
    })
run_owner (Err e) source name a b f f' does =
    run_none does.failed (λ s. record { file = λ g is. (g, is, (refl, λ calm. absurd (not_calm f f' does.count calm))); others = λ n ne. refl })

-- the times, if they are to be kept
pub run_times_if : (times : Bool) (source name : List ℕ) (a b : List State) → Moves (Copies HasTimes source name) a b
    → Run (Elsewhere name) (HasTimesIf times source name) a b
run_times_if times source name a b m =
    run_one (Copies HasTimes source name) m (λ s t h. h.others)
    (λ s t h. record {
      file = λ g is.
          let same : h.file.0 ≡ g = cc in
          let new = h.file.4 in (
            new.0,
            new.1,
            (
              new.2.0 ∙ ap (λ (x : Entry). x.bytes) same,
              new.2.1.1 ∙ ap (λ (x : Entry). x.mode) same,
              new.2.1.2 ∙ ap (λ (x : Entry). x.owner) same,
              λ yes. (h.file.2, h.file.3, new.2.1.0),
            ),
          );
      others = h.others;
    })

pub run_no_times : (times : Bool) (source name : List ℕ) (a b : List State) → times ≡ false → b ≡ a → Run (Elsewhere name) (HasTimesIf times source name) a b
run_no_times times source name a b off same =
    run_none same (λ s. record { file = λ g is. (g, is, (refl, refl, refl, λ yes. cc)); others = λ n ne. refl })

-- the owner and the mode
pub record HasOwnerAndMode (source name : List ℕ) (calm : Bool) (s t : State) : Type 0 where
  pub file : (f : Entry) → s.at name ≡ Some f → (old : Entry) × (s.at source ≡ Some old)
      × Holds t name (λ g. (g.bytes ≡ f.bytes) × (g.mode ≡ old.mode) × (calm ≡ true → g.owner ≡ old.owner))
  pub others : Elsewhere name s t

source_same : (source name : List ℕ) → source ≢ name → (s t : State) → Elsewhere name s t → t.at source ≡ s.at source
source_same source name apart s t others = others source apart

mode_more : (source name : List ℕ) (calm : Bool) → source ≢ name → (s t u : State) → MayHaveOwner source name calm s t → Copies HasMode source name t u → HasOwnerAndMode source name calm s u
mode_more source name calm apart s t u x y = record {
  file = λ f is.
      let h = x.file f is in
      let same : y.file.0 ≡ h.0 = cc in
      let old = y.file.2 in
      let was : s.at source ≡ Some old = sym (source_same source name apart s t x.others) ∙ y.file.3 in
      let g = y.file.4 in
      let owner : calm ≡ true → g.0.owner ≡ old.owner = λ yes.
      let o = h.2.1 yes in
      let one : o.0 ≡ old = cc in
      g.2.1.1 ∙ ap (λ (e : Entry). e.owner) same ∙ o.2 ∙ ap (λ (e : Entry). e.owner) one in
      (old, was, (g.0, g.1, (g.2.0 ∙ ap (λ (e : Entry). e.bytes) same ∙ h.2.0, g.2.1.0, owner)));
  others = elsewhere_then name s t u x.others y.others;
}

pub run_mode : (source name : List ℕ) (calm : Bool) (a b c : List State) → source ≢ name → Run (Elsewhere name) (MayHaveOwner source name calm) a b
    → Moves (Copies HasMode source name) b c → Run (Elsewhere name) (HasOwnerAndMode source name calm) a c
run_mode source name calm a b c apart run m =
    run_step (Copies HasMode source name) run m (λ s t h. h) (λ s t u x y. elsewhere_then name s t u x.others y.others) (mode_more source name calm apart)

times_more : (source name : List ℕ) (times calm : Bool) → source ≢ name → (s t u : State) → HasOwnerAndMode source name calm s t → HasTimesIf times source name t u → HasAccess source name times calm s u
times_more source name times calm apart s t u x y = record {
  file = λ f is.
      let h = x.file f is in
      let new = h.2 in
      let g = y.file new.0 new.1 in
      let kept : times ≡ true → g.0.times ≡ h.0.times = λ yes.
      let o = g.2.3 yes in
      let back : t.at source ≡ s.at source = source_same source name apart s t x.others in
      let one : o.0 ≡ h.0 = cc in
      o.2 ∙ ap (λ (e : Entry). e.times) one in (
        h.0,
        h.1,
        (
          g.0,
          g.1,
          (
            g.2.0 ∙ new.2.0,
            record {
              same_mode = g.2.1 ∙ new.2.1;
              same_times = kept;
              same_owner = λ yes. g.2.2 ∙ new.2.2 yes;
            },
          ),
        ),
      );
  others = elsewhere_then name s t u x.others y.others;
}

pub run_access : (source name : List ℕ) (times calm : Bool) (a b c : List State) → source ≢ name → Run (Elsewhere name) (HasOwnerAndMode source name calm) a b
    → Run (Elsewhere name) (HasTimesIf times source name) b c → Run (Elsewhere name) (HasAccess source name times calm) a c
run_access source name times calm a b c apart first second =
    run_then first second (λ s t h. h) (λ s t u x y. elsewhere_then name s t u x.others y) (times_more source name times calm apart)

pub access_done : {T E : Type 0} (r : Result T E) (source name : List ℕ) (times : Bool) (a b c d : List State) (f g h k : ℕ) → source ≢ name
    → Run (Elsewhere name) (MayHaveOwner source name (none_failed f g)) a b → Moves (Copies HasMode source name) b c → h ≡ g
    → OnOk r (Run (Elsewhere name) (HasTimesIf times source name) c d) → k ≡ count_after (is_err r) h
    → OnOk r (Run (Elsewhere name) (HasAccess source name times (none_failed f k)) a d)
access_done (Ok x) source name times a b c d f g h k apart owner mode e run count =
    let same : k ≡ g = count ∙ e in
    let P : ℕ → Type 0 = λ n. Run (Elsewhere name) (HasAccess source name times (none_failed f n)) a d in
    subst P (sym same) (run_access source name times (none_failed f g) a c d apart (run_mode source name (none_failed f g) a b c apart owner mode) run)
access_done (Err x) source name times a b c d f g h k apart owner mode e run count = tt
