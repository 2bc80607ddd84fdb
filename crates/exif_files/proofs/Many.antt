-- How a run over many files goes on.
use Rattle.std.proofs.Common.{◌≡◌, ◌≢◌, ◌⊎◌, ℕ, ◌+◌, List, [], ◌∷◌, ◌++◌, Bool, true, false, Option, None, Some, ap, sym, refl, subst, ◌∙◌, inl, inr, length, arith, cond, ◌≤◌}
use Rattle.std.proofs.lemmas.List.{drop_more, take_more, take-append-drop, take_all, get_or-map, length-map}
use Rattle.std.specs.Prelude.{◌||◌, ◌<◌, take, drop, map, get_or, suc}
use Rattle.std.specs.Str.{bytes_eq}
use Rattle.std.proofs.lemmas.Slice.Eq.{bytes_eq-Decides}
use Rattle.exif_files.specs.declared.outcome.Status.{Status}
use Rattle.exif_files.specs.declared.outcome.Status.TheVariants.{Success, Incomplete, Refused}
use Rattle.exif_files.specs.States.{Entry, State, Run}
use Rattle.exif_files.specs.Names.{IsHidden, backup_of, backup_if}
use Rattle.exif_files.specs.Changed.{HasAnswer, IsWholeChange, IsOutcome}
use Rattle.exif_files.specs.Parts.{Takes}
use Rattle.exif_files.specs.Each.{is_among, is_repeated, OnceAfter, AreOnce, IsDone, IsAnswer, IsAnswered, IsEachWhole, AllAnswered, IsEachDone}
use Rattle.exif_files.specs.Statuses.{status_for}
use Rattle.exif_files.proofs.Runs.{run_none, run_then, run_weaker, run_stay}
use Rattle.exif_files.proofs.Counts.{same_or_other}

-- names in front of others, the last first
abbrev pub gathered : List (List ℕ) → List (List ℕ) → List (List ℕ)
gathered before [] = before
gathered before (name ∷ names) = gathered (name ∷ before) names

pub gathered-more : (before names : List (List ℕ)) (name : List ℕ) → gathered before (names ++ name ∷ []) ≡ name ∷ gathered before names
gathered-more before [] name = refl
gathered-more before (x ∷ names) name = gathered-more (x ∷ before) names name

or_false : (a b : Bool) → (a || b) ≡ false → (a ≡ false) × (b ≡ false)
or_false true b h = cc
or_false false b h = (refl, h)

both_false : (a b : Bool) → a ≡ false → b ≡ false → (a || b) ≡ false
both_false true b h k = cc
both_false false b h k = k

-- a name that is not among them is none of them
among_gathered : (q : List ℕ) (before names : List (List ℕ)) → is_among q (gathered before names) ≡ false → (is_among q names ≡ false) × (is_among q before ≡ false)
among_gathered q before [] h = (refl, h)
among_gathered q before (x ∷ names) h =
    let rest = among_gathered q (x ∷ before) names h in
    let parts = or_false (bytes_eq x q) (is_among q before) rest.1 in
    (both_false (bytes_eq x q) (is_among q names) parts.0 rest.0, parts.1)

gathered_among : (q : List ℕ) (before names : List (List ℕ)) → is_among q names ≡ false → is_among q before ≡ false → is_among q (gathered before names) ≡ false
gathered_among q before [] h k = k
gathered_among q before (x ∷ names) h k =
    let parts = or_false (bytes_eq x q) (is_among q names) h in
    gathered_among q (x ∷ before) names parts.1 (both_false (bytes_eq x q) (is_among q before) parts.0 k)

other_name : (x q : List ℕ) → bytes_eq x q ≡ false → x ≢ q
other_name x q off same = let on_ : bytes_eq x q ≡ true = (bytes_eq-Decides x q).1 same in cc

-- one more result
once_more : (before front rest : List (List ℕ)) (name : List ℕ) (results : List (Option Status)) (result : Option Status) → length front ≡ length results
    → OnceAfter before (front ++ name ∷ rest) results → is_repeated result ≡ is_among name (gathered before front) → OnceAfter before (front ++ name ∷ rest) (results ++ result ∷ [])
once_more before [] rest name [] result e once is = (is, tt)
once_more before [] rest name (r ∷ results) result e once is = cc
once_more before (x ∷ front) rest name [] result e once is = cc
once_more before (x ∷ front) rest name (r ∷ results) result e once is = (once.0, once_more (x ∷ before) front rest name results result (omega arith) once.1 is)

module _ (answer : List ℕ → List ℕ → Type 0) (backup times : Bool) (undone : List ℕ → ℕ) where
  answered_more : (s u : State) (front rest : List (List ℕ)) (name : List ℕ) (results : List (Option Status)) (result : Option Status) → length front ≡ length results
      → AllAnswered answer times undone s u (front ++ name ∷ rest) results → (IsDone result → (old : Entry) → s.at name ≡ Some old → IsAnswered answer times old (u.at name) × (result ≡ Some (status_for (undone old.bytes))))
      → AllAnswered answer times undone s u (front ++ name ∷ rest) (results ++ result ∷ [])
  answered_more s u [] rest name [] result e all is = (is, tt)
  answered_more s u [] rest name (r ∷ results) result e all is = cc
  answered_more s u (x ∷ front) rest name [] result e all is = cc
  answered_more s u (x ∷ front) rest name (r ∷ results) result e all is = (all.0, answered_more s u front rest name results result (omega arith) all.1 is)

  -- the files of other names are as they were
  answered_still : (s t u : State) (front rest : List (List ℕ)) (name : List ℕ) (results : List (Option Status)) → length front ≡ length results → is_among name front ≡ false
      → ((n : List ℕ) (f : Entry) → n ≢ name → t.at n ≡ Some f → u.at n ≡ Some f)
      → AllAnswered answer times undone s t (front ++ name ∷ rest) results → AllAnswered answer times undone s u (front ++ name ∷ rest) results
  answered_still s t u [] rest name [] e among still all = tt
  answered_still s t u [] rest name (r ∷ results) e among still all = cc
  answered_still s t u (x ∷ front) rest name [] e among still all = cc
  answered_still s t u (x ∷ front) rest name (r ∷ results) e among still all =
      let parts = or_false (bytes_eq x name) (is_among name front) among in (
        λ done old is. let both = all.0 done old is in let a = both.0 in ((a.0, still x a.0 (other_name x name parts.0) a.1, a.2), both.1),
        answered_still s t u front rest name results (omega arith) parts.1 still all.1,
      )

  -- a file that is there keeps its name while another is changed
  still : (name : List ℕ) (t u : State) → IsWholeChange answer name (backup_if backup name) times false t u → (n : List ℕ) (f : Entry) → n ≢ name → t.at n ≡ Some f → u.at n ≡ Some f
  still name t u w n f ne is = w.others n ne (λ fresh. let none = fresh.free in cc) ∙ is

  backup_named : (keeps : Bool) (name n : List ℕ) → backup_if keeps name ≡ Some n → (keeps ≡ true) × (n ≡ backup_of name)
  backup_named true name n e = (refl, cc)
  backup_named false name n e = cc

  is_answer : (name : List ℕ) (s u : State) (old : Entry) → s.at name ≡ Some old → HasAnswer answer name times false s u → IsAnswered answer times old (u.at name)
  is_answer name s u old is h =
      let one : h.0 ≡ old = cc in
      let f = h.2 in
      let P : Entry → Type 0 = λ x. IsAnswer answer times x f.0 in
      (f.0, f.1, subst P one (record { answered = f.2.0; same_mode = f.2.1.same_mode; same_times = f.2.1.same_times }))

  file_whole : (name : List ℕ) (t u : State) (old : Entry) → t.at name ≡ Some old → (u.at name ≡ t.at name) ⊎ HasAnswer answer name times false t u → (u.at name ≡ Some old) ⊎ IsAnswered answer times old (u.at name)
  file_whole name t u old is (inl same) = inl (same ∙ is)
  file_whole name t u old is (inr h) = inr (is_answer name t u old is h)

  file_none : (name : List ℕ) (t u : State) → t.at name ≡ None → (u.at name ≡ t.at name) ⊎ HasAnswer answer name times false t u → u.at name ≡ None
  file_none name t u is (inl same) = same ∙ is
  file_none name t u is (inr h) = cc

  kept_or_answered : (name : List ℕ) (t u : State) → IsWholeChange answer name (backup_if backup name) times false t u → (n : List ℕ) (old : Entry) → n ≢ name
      → (t.at n ≡ Some old) ⊎ IsAnswered answer times old (t.at n) → (u.at n ≡ Some old) ⊎ IsAnswered answer times old (u.at n)
  kept_or_answered name t u w n old ne (inl is) = inl (still name t u w n old ne is)
  kept_or_answered name t u w n old ne (inr a) = inr (a.0, still name t u w n a.0 ne a.1, a.2)

  -- one more file, which was as it had been
  each_more : (name : List ℕ) (s t u : State) → IsEachWhole answer backup times s t → ((old : Entry) → s.at name ≡ Some old → t.at name ≡ Some old)
      → IsWholeChange answer name (backup_if backup name) times false t u → IsEachWhole answer backup times s u
  each_more name s t u each left w = record {
    files = λ n old is. elim (same_or_other n name) [
      | inl e ↦ at_name n old e is
      | inr ne ↦ kept_or_answered name t u w n old ne (each.files n old is)
    ];
    nothing_more = λ n none hid bak. elim (same_or_other n name) [
      | inl e ↦ ap u.at e ∙ file_none name t u (sym (ap t.at e) ∙ each.nothing_more n none hid bak) w.file
      | inr ne ↦ w.others n ne (λ fresh. not_own n hid bak fresh.own) ∙ each.nothing_more n none hid bak
    ];
  }
    where
      at_name : (n : List ℕ) (old : Entry) → n ≡ name → s.at n ≡ Some old → (u.at n ≡ Some old) ⊎ IsAnswered answer times old (u.at n)
      at_name n old e is =
          let P : List ℕ → Type 0 = λ x. (u.at x ≡ Some old) ⊎ IsAnswered answer times old (u.at x) in
          subst P (sym e) (file_whole name t u old (left old (sym (ap s.at e) ∙ is)) w.file)

      not_own : (n : List ℕ) → (IsHidden n → ⊥) → (backup ≡ true → (m : List ℕ) → n ≢ backup_of m) → IsHidden n ⊎ (backup_if backup name ≡ Some n) → ⊥
      not_own n hid bak (inl h) = hid h
      not_own n hid bak (inr e) = let p = backup_named backup name n e in bak p.0 name p.1

  each_same : (s : State) → IsEachWhole answer backup times s s
  each_same s = record { files = λ n old is. inl is; nothing_more = λ n none hid bak. none }

  -- the names so far, and what became of them
  pub record IsSoFar (names front : List (List ℕ)) (results : List (Option Status)) (s t : State) : Type 0 where
    pub each : IsEachWhole answer backup times s t
    pub done : AllAnswered answer times undone s t names results
    pub left : (n : List ℕ) (old : Entry) → s.at n ≡ Some old → is_among n (gathered [] front) ≡ false → t.at n ≡ Some old

  pub run_begun : (names : List (List ℕ)) (a b : List State) → b ≡ a → Run (IsEachWhole answer backup times) (IsSoFar names [] []) a b
  run_begun names a b e = run_none e (λ s. record { each = each_same s; done = tt; left = λ n old is among. is })

  first_more : (front rest : List (List ℕ)) (name : List ℕ) (results : List (Option Status)) (status : Status) → length front ≡ length results → is_among name (gathered [] front) ≡ false
      → (s t u : State) → IsSoFar (front ++ name ∷ rest) front results s t → IsOutcome answer name (backup_if backup name) times undone status t u
      → IsSoFar (front ++ name ∷ rest) (front ++ name ∷ []) (results ++ Some status ∷ []) s u
  first_more front rest name results status e among s t u x y = record {
    each = each_more name s t u x.each (λ old is. x.left name old is among) y.whole;
    done = answered_more s u front rest name results (Some status) e
        (answered_still s t u front rest name results e (among_gathered name [] front among).0 (still name t u y.whole) x.done)
        (λ done old is. let there = x.left name old is among in
        (is_answer name t u old there (y.done (not_refused status done)), ap (λ (r : Status). Some r) (y.is (not_refused status done) old there)));
    left = λ n old is off.
        let here : is_among n (name ∷ gathered [] front) ≡ false = sym (ap (is_among n) (gathered-more [] front name)) ∙ off in
        let parts = or_false (bytes_eq name n) (is_among n (gathered [] front)) here in
        still name t u y.whole n old (λ same. other_name name n parts.0 (sym same)) (x.left n old is parts.1);
  }
    where
      not_refused : (status : Status) → IsDone (Some status) → status ≢ Refused
      not_refused Success done e = cc
      not_refused Incomplete done e = cc
      not_refused Refused done e = done

  second_more : (front rest : List (List ℕ)) (name : List ℕ) (results : List (Option Status)) → length front ≡ length results
      → (s t : State) → IsSoFar (front ++ name ∷ rest) front results s t → IsSoFar (front ++ name ∷ rest) (front ++ name ∷ []) (results ++ None ∷ []) s t
  second_more front rest name results e s t x = record {
    each = x.each;
    done = answered_more s t front rest name results None e x.done (λ done. absurd done);
    left = λ n old is off.
        let here : is_among n (name ∷ gathered [] front) ≡ false = sym (ap (is_among n) (gathered-more [] front name)) ∙ off in
        x.left n old is (or_false (bytes_eq name n) (is_among n (gathered [] front)) here).1;
  }

  -- all that is known between two files
  pub record SoFar (names front : List (List ℕ)) (results : List (Option Status)) (a b : List State) : Type 0 where
    pub each : length front ≡ length results
    pub once : OnceAfter [] names results
    pub run : Run (IsEachWhole answer backup times) (IsSoFar names front results) a b

  pub so_far_none : (names : List (List ℕ)) (a : List State) → SoFar names [] [] a a
  so_far_none names a = record { each = refl; once = tt; run = run_begun names a a refl }

  one_more : (front : List (List ℕ)) (name : List ℕ) (results : List (Option Status)) (result : Option Status) → length front ≡ length results → length (front ++ name ∷ []) ≡ length (results ++ result ∷ [])
  one_more [] name [] result e = refl
  one_more [] name (r ∷ results) result e = cc
  one_more (x ∷ front) name [] result e = cc
  one_more (x ∷ front) name (r ∷ results) result e = let h = one_more front name results result (omega arith) in ap suc h

  pub so_far_more : (front rest : List (List ℕ)) (name : List ℕ) (results results' : List (Option Status)) (a b c : List State) (among : Bool) → among ≡ is_among name (gathered [] front)
      → SoFar (front ++ name ∷ rest) front results a b → Takes answer name (backup_if backup name) times undone b c among results results'
      → SoFar (front ++ name ∷ rest) (front ++ name ∷ []) results' a c
  so_far_more front rest name results results' a b c among e so_far (inl (is, same, more)) =
      let P : List (Option Status) → Type 0 = λ rs. SoFar (front ++ name ∷ rest) (front ++ name ∷ []) rs a c in
      subst P (sym more) (record {
        each = one_more front name results None so_far.each;
        once = once_more [] front rest name results None so_far.each so_far.once (sym is ∙ e);
        run = run_weaker (run_stay so_far.run same) (λ s t h. h) (second_more front rest name results so_far.each);
      })
  so_far_more front rest name results results' a b c among e so_far (inr (is, (status, more, run))) =
      let P : List (Option Status) → Type 0 = λ rs. SoFar (front ++ name ∷ rest) (front ++ name ∷ []) rs a c in
      let off : is_among name (gathered [] front) ≡ false = sym e ∙ is in
      subst P (sym more) (record {
        each = one_more front name results (Some status) so_far.each;
        once = once_more [] front rest name results (Some status) so_far.each so_far.once (sym is ∙ e);
        run = run_then so_far.run run (λ s t h. h)
            (λ s t u x y. each_more name s t u x.each (λ old there. x.left name old there off) y)
            (first_more front rest name results status so_far.each off);
      })

  -- where memory ran out in the middle of a file
  pub whole_then : (front rest : List (List ℕ)) (name : List ℕ) (results : List (Option Status)) (a b c : List State) → SoFar (front ++ name ∷ rest) front results a b
      → Run (IsWholeChange answer name (backup_if backup name) times false) (IsWholeChange answer name (backup_if backup name) times false) b c
      → (among : Bool) → among ≡ is_among name (gathered [] front) → (among ≡ true → c ≡ b)
      → Run (IsEachWhole answer backup times) (IsEachWhole answer backup times) a c
  whole_then front rest name results a b c so_far run true e same = run_weaker (run_stay so_far.run (same refl)) (λ s t h. h) (λ s t h. h.each)
  whole_then front rest name results a b c so_far run false e same =
      run_then so_far.run run (λ s t h. h)
      (λ s t u x y. each_more name s t u x.each (λ old there. x.left name old there (sym e)) y)
      (λ s t u x y. each_more name s t u x.each (λ old there. x.left name old there (sym e)) y)

  pub whole_so_far : (names front : List (List ℕ)) (results : List (Option Status)) (a b : List State) → SoFar names front results a b → Run (IsEachWhole answer backup times) (IsEachWhole answer backup times) a b
  whole_so_far names front results a b so_far = run_weaker so_far.run (λ s t h. h) (λ s t h. h.each)

  pub all_done : (names : List (List ℕ)) (results : List (Option Status)) (a b : List State) → SoFar names names results a b → Run (IsEachWhole answer backup times) (IsEachDone answer times undone names results) a b
  all_done names results a b so_far = run_weaker so_far.run (λ s t h. h) (λ s t h. record { done = h.done; left = λ n old is off. h.left n old is (gathered_among n [] names off refl) })

  pub are_once : (names : List (List ℕ)) (results : List (Option Status)) (a b : List State) → SoFar names names results a b → AreOnce names results
  are_once names results a b so_far = record { each = sym so_far.each; once = so_far.once }

-- the names up to one, that one, and those after it
pub names_at : (names : List (List ℕ)) (i : ℕ) (name : List ℕ) → i < length names → name ≡ get_or names i name → names ≡ take i names ++ name ∷ drop (i + 1) names
names_at names i name h e = sym (take-append-drop i names) ∙ ap (λ (xs : List (List ℕ)). take i names ++ xs) (drop_more names i name h ∙ ap (λ (x : List ℕ). x ∷ drop (i + 1) names) (sym e))

pub take_at : (names : List (List ℕ)) (i : ℕ) (name : List ℕ) → i < length names → name ≡ get_or names i name → take (i + 1) names ≡ take i names ++ name ∷ []
take_at names i name h e = take_more names i name h ∙ ap (λ (x : List ℕ). take i names ++ x ∷ []) (sym e)

-- what was seen after one more name
pub seen_more : (front : List (List ℕ)) (name : List ℕ) (q : List ℕ) (was then_ : Bool) → was ≡ is_among q (gathered [] front) → then_ ≡ cond (bytes_eq name q) true was
    → then_ ≡ is_among q (gathered [] (front ++ name ∷ []))
seen_more front name q was then_ e e' = e' ∙ ap (λ (b : Bool). cond (bytes_eq name q) true b) e ∙ or_is (bytes_eq name q) (is_among q (gathered [] front)) ∙ sym (ap (is_among q) (gathered-more [] front name))
  where
    or_is : (a b : Bool) → cond a true b ≡ (a || b)
    or_is true b = refl
    or_is false b = refl

-- the same of names that are given by others
pub names_of : {X : Type 0} (f : X → List ℕ) (all : List X) (i : ℕ) (x : X) (name : List ℕ) → i < length all → x ≡ get_or all i x → name ≡ f x
    → (map f all ≡ take i (map f all) ++ name ∷ drop (i + 1) (map f all)) × (take (i + 1) (map f all) ≡ take i (map f all) ++ name ∷ [])
names_of f all i x name h e e' =
    let within : i < length (map f all) = omega (arith, length-map all f) in
    let is : name ≡ get_or (map f all) i name = e' ∙ ap f e ∙ sym (get_or-map f all i x name h) in
    (names_at (map f all) i name within is, take_at (map f all) i name within is)

module _ (answer : List ℕ → List ℕ → Type 0) (backup times : Bool) (undone : List ℕ → ℕ) where
  -- one more name, where the names and what was seen are given by equations
  pub so_far_next : (names front front' rest : List (List ℕ)) (name : List ℕ) (results results' : List (Option Status)) (a b c : List State) (among : Bool) → names ≡ front ++ name ∷ rest → front' ≡ front ++ name ∷ []
      → among ≡ is_among name (gathered [] front) → SoFar answer backup times undone names front results a b → Takes answer name (backup_if backup name) times undone b c among results results'
      → SoFar answer backup times undone names front' results' a c
  so_far_next names front front' rest name results results' a b c among e e' is so_far takes =
      let P : List (List ℕ) → List (List ℕ) → Type 0 = λ xs ys. SoFar answer backup times undone xs ys results' a c in
      let Q : List (List ℕ) → Type 0 = λ xs. SoFar answer backup times undone xs front results a b in
      let next = so_far_more answer backup times undone front rest name results results' a b c among is (subst Q e so_far) takes in
      subst (P names) (sym e') (subst (λ (xs : List (List ℕ)). P xs (front ++ name ∷ [])) (sym e) next)

  pub whole_next : (names front rest : List (List ℕ)) (name : List ℕ) (results : List (Option Status)) (a b c : List State) (among : Bool) → names ≡ front ++ name ∷ rest
      → among ≡ is_among name (gathered [] front) → SoFar answer backup times undone names front results a b
      → Run (IsWholeChange answer name (backup_if backup name) times false) (IsWholeChange answer name (backup_if backup name) times false) b c → (among ≡ true → c ≡ b)
      → Run (IsEachWhole answer backup times) (IsEachWhole answer backup times) a c
  whole_next names front rest name results a b c among e is so_far run same =
      let Q : List (List ℕ) → Type 0 = λ xs. SoFar answer backup times undone xs front results a b in
      whole_then answer backup times undone front rest name results a b c (subst Q e so_far) run among is same

  -- all names
  pub so_far_all : (names : List (List ℕ)) (i : ℕ) (results : List (Option Status)) (a b : List State) → length names ≤ i → SoFar answer backup times undone names (take i names) results a b → SoFar answer backup times undone names names results a b
  so_far_all names i results a b h so_far = let P : List (List ℕ) → Type 0 = λ xs. SoFar answer backup times undone names xs results a b in subst P (take_all i names h) so_far

pub seen_as : (front' front : List (List ℕ)) (q : List ℕ) (then_ : Bool) → front' ≡ front → then_ ≡ is_among q (gathered [] front) → then_ ≡ is_among q (gathered [] front')
seen_as front' front q then_ e h = h ∙ ap (λ (xs : List (List ℕ)). is_among q (gathered [] xs)) (sym e)
