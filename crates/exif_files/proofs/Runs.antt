-- How runs begin and go on.
use Rattle.std.proofs.Common.{◌≡◌, List, [], ◌∷◌, ◌++◌, ap, sym, refl, subst, ◌∙◌, append_assoc, Result, Ok, Err, OnOk, OnErr}
use Rattle.std.specs.Prelude.{IfOk, IfErr, ⊤}
use Rattle.std.specs.List.{AllByRecursion}
use Rattle.exif_files.specs.States.{State, Now, Run}
use Rattle.exif_files.specs.Steps.{Moves}

every_map : (P Q : State → Type 0) (xs : List State) → ((x : State) → P x → Q x) → AllByRecursion P xs → AllByRecursion Q xs
every_map P Q [] f all = tt
every_map P Q (x ∷ xs) f all = (f x all.0, every_map P Q xs f all.1)

every_append : (P : State → Type 0) (xs ys : List State) → AllByRecursion P xs → AllByRecursion P ys → AllByRecursion P (xs ++ ys)
every_append P [] ys a b = b
every_append P (x ∷ xs) ys a b = (a.0, every_append P xs ys a.1 b)

-- what is known of the last state
pub now_told : (P : State → Type 0) (old : List State) → Now old P → (s : State) (past : List State) → old ≡ s ∷ past → P s
now_told P [] now s past e = cc
now_told P (t ∷ rest) now s past e = let same : t ≡ s = cc in subst P same now

-- no call, and what is known of the state
pub run_begin : (P : State → State → Type 0) (R : State → Type 0) (old : List State) → Now old R → Run P (λ s t. (t ≡ s) × R s) old old
run_begin P R old now = record {
  told = λ s past e. record { now = s; earlier = past; since = []; is = e; begun = refl; each = tt; last = (refl, now_told R old now s past e) };
  none = λ e. e;
}

-- a call that changed nothing
pub run_none : {P Q : State → State → Type 0} {old new : List State} → new ≡ old → ((s : State) → Q s s) → Run P Q old new
run_none e q = record {
  told = λ s past is. record { now = s; earlier = past; since = []; is = e ∙ is; begun = refl; each = tt; last = q s };
  none = λ is. e ∙ is;
}

moved : (step : State → State → Type 0) (old new : List State) → Moves step old new → (s : State) (past : List State) → old ≡ s ∷ past → (t : State) × step s t × (new ≡ t ∷ s ∷ past)
moved step [] new m s past e = cc
moved step (x ∷ rest) new m s past e =
    let head : x ≡ s = cc in
    (m.0, subst (λ (y : State). step y m.0) head m.1, m.2 ∙ ap (λ xs. m.0 ∷ xs) e)

moves_none : (step : State → State → Type 0) (old new : List State) → Moves step old new → old ≡ [] → new ≡ []
moves_none step [] new m e = m
moves_none step (x ∷ rest) new m e = cc

-- one call
pub run_one : {P Q : State → State → Type 0} {old new : List State} (step : State → State → Type 0) → Moves step old new
    → ((s t : State) → step s t → P s t) → ((s t : State) → step s t → Q s t) → Run P Q old new
run_one {old = old} {new = new} step m p q = record {
  told = λ s past e. let one = moved step old new m s past e in
      record { now = one.0; earlier = s ∷ past; since = one.0 ∷ []; is = one.2; begun = refl; each = (p s one.0 one.1, tt); last = q s one.0 one.1 };
  none = moves_none step old new m;
}

-- a run, and then another
pub run_then : {P Q P' Q' P'' Q'' : State → State → Type 0} {a b c : List State} → Run P Q a b → Run P' Q' b c
    → ((s t : State) → P s t → P'' s t) → ((s t u : State) → Q s t → P' t u → P'' s u) → ((s t u : State) → Q s t → Q' t u → Q'' s u)
    → Run P'' Q'' a c
run_then {P = P} {P' = P'} {P'' = P''} first second weaker p q = record {
  told = λ s past e.
      let x = first.told s past e in
      let y = second.told x.now x.earlier x.is in
      record {
        now = y.now;
        earlier = y.earlier;
        since = y.since ++ x.since;
        is = y.is;
        begun = y.begun ∙ ap (λ rest. y.since ++ rest) x.begun ∙ sym (append_assoc y.since x.since (s ∷ past));
        each = every_append (P'' s) y.since x.since (every_map (P' x.now) (P'' s) y.since (λ u. p s x.now u x.last) y.each) (every_map (P s) (P'' s) x.since (weaker s) x.each);
        last = q s x.now y.now x.last y.last;
      };
  none = λ e. second.none (first.none e);
}

-- a run, and then one call
pub run_step : {P Q P' Q' : State → State → Type 0} {a b c : List State} (step : State → State → Type 0) → Run P Q a b → Moves step b c
    → ((s t : State) → P s t → P' s t) → ((s t u : State) → Q s t → step t u → P' s u) → ((s t u : State) → Q s t → step t u → Q' s u)
    → Run P' Q' a c
run_step step first m weaker p q = run_then first (run_one step m (λ s t h. h) (λ s t h. h)) weaker p q

-- the same run, of which less is said
pub run_weaker : {P Q P' Q' : State → State → Type 0} {a b : List State} → Run P Q a b
    → ((s t : State) → P s t → P' s t) → ((s t : State) → Q s t → Q' s t) → Run P' Q' a b
run_weaker {P = P} {P' = P'} run p q = record {
  told = λ s past e. let x = run.told s past e in
      record { now = x.now; earlier = x.earlier; since = x.since; is = x.is; begun = x.begun; each = every_map (P s) (P' s) x.since (p s) x.each; last = q s x.now x.last };
  none = run.none;
}

-- a run, and then a call that changed nothing
pub run_stay : {P Q : State → State → Type 0} {a b c : List State} → Run P Q a b → c ≡ b → Run P Q a c
run_stay run e = record {
  told = λ s past is. let x = run.told s past is in
      record { now = x.now; earlier = x.earlier; since = x.since; is = e ∙ x.is; begun = x.begun; each = x.each; last = x.last };
  none = λ is. e ∙ run.none is;
}

-- what an answer that is an error, or none, says
pub on_ok : {T E : Type 0} (P Q : Type 0) (r : Result T E) → OnOk r P → (P → Q) → OnOk r Q
on_ok P Q (Ok x) h f = f h
on_ok P Q (Err e) h f = tt

pub on_err : {T E : Type 0} (P Q : Type 0) (r : Result T E) → OnErr r P → (P → Q) → OnErr r Q
on_err P Q (Ok x) h f = tt
on_err P Q (Err e) h f = f h

pub ok_at : {T E : Type 0} (P : T → Type 0) (r : Result T E) (x : T) → r ≡ Ok x → IfOk r P → P x
ok_at {T = T} {E = E} P r x is h = let Q : Result T E → Type 0 = λ y. IfOk y P in subst Q is h

pub at_err : {T E : Type 0} (Q : Type 0) (r : Result T E) → Q → OnErr r Q
at_err Q (Ok x) h = tt
at_err Q (Err e) h = h

-- what is known of the last state by what is known of the one that was
pub run_now : {P Q : State → State → Type 0} (X Y : State → Type 0) (a b : List State) → Now a X → Run P Q a b → ((s t : State) → X s → Q s t → Y t) → Now b Y
run_now X Y [] b now run f = let R : List State → Type 0 = λ xs. Now xs Y in subst R (sym (run.none refl)) tt
run_now X Y (s ∷ past) b now run f =
    let x = run.told s past refl in
    let R : List State → Type 0 = λ xs. Now xs Y in
    subst R (sym x.is) (f s x.now now x.last)

-- and by a call
pub moves_now : (X Y : State → Type 0) (step : State → State → Type 0) (a b : List State) → Now a X → Moves step a b → ((s t : State) → X s → step s t → Y t) → Now b Y
moves_now X Y step a b now m f = run_now X Y a b now (run_one step m (λ s t h. h) (λ s t h. h)) f

-- nothing is known of a state
pub now_any : (a : List State) → Now a (λ s. ⊤)
now_any [] = tt
now_any (s ∷ past) = tt

-- what is known of the last state, of the one that was
pub now_back : {P Q : State → State → Type 0} (X Y : State → Type 0) (a b : List State) → Run P Q a b → ((s t : State) → Q s t → X t → Y s) → Now b X → Now a Y
now_back X Y [] b run f now = tt
now_back X Y (s ∷ past) b run f now = let x = run.told s past refl in f s x.now x.last (now_told X b now x.now x.earlier x.is)

pub if_err : {T E : Type 0} (P Q : E → Type 0) (r : Result T E) → IfErr r P → ((e : E) → P e → Q e) → IfErr r Q
if_err P Q (Ok x) h f = tt
if_err P Q (Err e) h f = f e h

pub if_ok : {T E : Type 0} (P Q : T → Type 0) (r : Result T E) → IfOk r P → ((x : T) → P x → Q x) → IfOk r Q
if_ok P Q (Ok x) h f = f x h
if_ok P Q (Err e) h f = tt

pub if_err_any : {T E : Type 0} (Q : E → Type 0) (r : Result T E) → ((e : E) → Q e) → IfErr r Q
if_err_any Q (Ok x) f = tt
if_err_any Q (Err e) f = f e
