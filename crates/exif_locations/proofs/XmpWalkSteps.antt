-- A walk over a packet, token after token.
use Rattle.std.proofs.Common.{◌≡◌, ℕ, zero, suc, ◌+◌, ◌-◌, ◌<◌, ◌≤◌, Bool, true, false, cond, List, [], ◌∷◌, ◌++◌, length, take, drop, replicate, Result, Ok, Err, IsOk, is_ok, refl, ap, sym, ◌∙◌, arith, ◌||◌, length-drop, length-append, append_assoc, append-nil}
use Rattle.std.proofs.lemmas.List.{drop-drop, drop_at, length-replicate, length-take-le, take-append-le, take_rest}
use Rattle.std.proofs.Math.Seq.{take-add, take-length}
use Rattle.std.proofs.Math.ListN.{drop_of_length-le}
use Rattle.exif_locations.specs.declared.xmp.fault.Fault.{Fault}
use Rattle.exif_locations.specs.declared.xmp.fault.Fault.TheVariants.{Cut}
use Rattle.exif_locations.specs.declared.xmp.step.State.{State}
use Rattle.exif_locations.specs.declared.xmp.step.Step.{Step}
use Rattle.exif_locations.specs.XmpErasing.{◌>>=◌, at_start, behind, chunk, either, erased, erased_by, found, found_by, may_end, step_at}
use Rattle.exif_locations.proofs.XmpStepSteps.{bind_ok, deeper, step_token}

-- two ways on that give the same where a step succeeds
pub bind_same : {A B : Type 0} (r : Result A Fault) (f g : A → Result B Fault) → ((x : A) → r ≡ Ok x → f x ≡ g x) → (r >>= f) ≡ (r >>= g)
bind_same (Ok x) f g h = h x refl
bind_same (Err e) f g h = refl

-- behind a token there is less
pub shorter : (s : State) (a : List ℕ) (t : Step) (n : ℕ) → 0 < length a → length a ≤ suc n → step_at s a ≡ Ok t → length (drop t.len a) ≤ n
shorter s a t n h l e =
    let r = step_token s a t h e in
    let some : 0 < t.len = r.some in
    let within : t.len ≤ length a = r.within in
    let d : length (drop t.len a) ≡ length a - t.len = length-drop t.len a in
    omega arith

-- a bound on the tokens that is large enough is like any other
pub found_any : (n k : ℕ) (s : State) (a : List ℕ) → length a ≤ n → length a ≤ k → found_by n s a ≡ found_by k s a
unfolding found_by
found_any zero zero s [] h l = refl
found_any zero (suc k) s [] h l = refl
found_any (suc n) zero s [] h l = refl
found_any (suc n) (suc k) s [] h l = refl
found_any zero k s (b ∷ bs) h l = absurd (omega arith)
found_any (suc n) zero s (b ∷ bs) h l = absurd (omega arith)
found_any (suc n) (suc k) s (b ∷ bs) h l =
    bind_same (step_at s (b ∷ bs)) (λ t. either t.blank (found_by n t.state (drop t.len (b ∷ bs)))) (λ t. either t.blank (found_by k t.state (drop t.len (b ∷ bs))))
    (λ t e. ap (either t.blank) (found_any n k t.state (drop t.len (b ∷ bs)) (shorter s (b ∷ bs) t n (omega arith) h e) (shorter s (b ∷ bs) t k (omega arith) l e)))

pub erased_any : (n k : ℕ) (s : State) (a : List ℕ) → length a ≤ n → length a ≤ k → erased_by n s a ≡ erased_by k s a
unfolding erased_by
erased_any zero zero s [] h l = refl
erased_any zero (suc k) s [] h l = refl
erased_any (suc n) zero s [] h l = refl
erased_any (suc n) (suc k) s [] h l = refl
erased_any zero k s (b ∷ bs) h l = absurd (omega arith)
erased_any (suc n) zero s (b ∷ bs) h l = absurd (omega arith)
erased_any (suc n) (suc k) s (b ∷ bs) h l =
    bind_same (step_at s (b ∷ bs)) (λ t. behind (chunk t (b ∷ bs)) (erased_by n t.state (drop t.len (b ∷ bs)))) (λ t. behind (chunk t (b ∷ bs)) (erased_by k t.state (drop t.len (b ∷ bs))))
    (λ t e. ap (behind (chunk t (b ∷ bs))) (erased_any n k t.state (drop t.len (b ∷ bs)) (shorter s (b ∷ bs) t n (omega arith) h e) (shorter s (b ∷ bs) t k (omega arith) l e)))

-- one step of a walk
pub found_step : (k : ℕ) (s : State) (a : List ℕ) (t : Step) → 0 < length a → length a ≤ k → step_at s a ≡ Ok t → found_by k s a ≡ either t.blank (found_by (length (drop t.len a)) t.state (drop t.len a))
unfolding found_by
found_step k s [] t h l e = absurd (omega arith)
found_step zero s (b ∷ bs) t h l e = absurd (omega arith)
found_step (suc k) s (b ∷ bs) t h l e =
    ap (λ r. r >>= λ t. either t.blank (found_by k t.state (drop t.len (b ∷ bs)))) e
    ∙ ap (either t.blank) (found_any k (length (drop t.len (b ∷ bs))) t.state (drop t.len (b ∷ bs)) (shorter s (b ∷ bs) t k h l e) (omega arith))

pub erased_step : (k : ℕ) (s : State) (a : List ℕ) (t : Step) → 0 < length a → length a ≤ k → step_at s a ≡ Ok t → erased_by k s a ≡ behind (chunk t a) (erased_by (length (drop t.len a)) t.state (drop t.len a))
unfolding erased_by
erased_step k s [] t h l e = absurd (omega arith)
erased_step zero s (b ∷ bs) t h l e = absurd (omega arith)
erased_step (suc k) s (b ∷ bs) t h l e =
    ap (λ r. r >>= λ t. behind (chunk t (b ∷ bs)) (erased_by k t.state (drop t.len (b ∷ bs)))) e
    ∙ ap (behind (chunk t (b ∷ bs))) (erased_any k (length (drop t.len (b ∷ bs))) t.state (drop t.len (b ∷ bs)) (shorter s (b ∷ bs) t k h l e) (omega arith))

-- a step that is refused ends a walk
pub found_refused : (k : ℕ) (s : State) (a : List ℕ) (f : Fault) → 0 < length a → length a ≤ k → step_at s a ≡ Err f → found_by k s a ≡ Err f
unfolding found_by
found_refused k s [] f h l e = absurd (omega arith)
found_refused zero s (b ∷ bs) f h l e = absurd (omega arith)
found_refused (suc k) s (b ∷ bs) f h l e = ap (λ r. r >>= λ t. either t.blank (found_by k t.state (drop t.len (b ∷ bs)))) e

pub erased_refused : (k : ℕ) (s : State) (a : List ℕ) (f : Fault) → 0 < length a → length a ≤ k → step_at s a ≡ Err f → erased_by k s a ≡ Err f
unfolding erased_by
erased_refused k s [] f h l e = absurd (omega arith)
erased_refused zero s (b ∷ bs) f h l e = absurd (omega arith)
erased_refused (suc k) s (b ∷ bs) f h l e = ap (λ r. r >>= λ t. behind (chunk t (b ∷ bs)) (erased_by k t.state (drop t.len (b ∷ bs)))) e

-- the end of a walk
pub found_end : (k : ℕ) (s : State) → found_by k s [] ≡ cond (may_end s) (Ok false) (Err Cut)
unfolding found_by
found_end zero s = refl
found_end (suc k) s = refl

pub erased_end : (k : ℕ) (s : State) → erased_by k s [] ≡ cond (may_end s) (Ok []) (Err Cut)
unfolding erased_by
erased_end zero s = refl
erased_end (suc k) s = refl

pub either_both : (f b : Bool) (x : Result Bool Fault) → either f (either b x) ≡ either (b || f) x
either_both true true (Ok x) = refl
either_both true false (Ok x) = refl
either_both false true (Ok x) = refl
either_both false false (Ok x) = refl
either_both f b (Err e) = refl

pub either_none : (x : Result Bool Fault) → either false x ≡ x
either_none (Ok x) = refl
either_none (Err e) = refl

pub behind_both : (a b : List ℕ) (x : Result (List ℕ) Fault) → behind a (behind b x) ≡ behind (a ++ b) x
behind_both a b (Ok x) = ap Ok (sym (append_assoc a b x))
behind_both a b (Err e) = refl

pub behind_none : (x : Result (List ℕ) Fault) → behind [] x ≡ x
behind_none (Ok x) = refl
behind_none (Err e) = refl

-- errors are the same where a walk finds and where it erases
pub same_faults : (n : ℕ) (s : State) (a : List ℕ) (b : Bool) → found_by n s a ≡ Ok b → (out : List ℕ) × (erased_by n s a ≡ Ok out)
unfolding found_by erased_by
same_faults zero s [] b e = at_end (may_end s) e
  where
    at_end : (r : Bool) → cond r (Ok false) (Err Cut) ≡ Ok b → (out : List ℕ) × (cond r (Ok []) (Err Cut) ≡ Ok out)
    at_end true e = ([], refl)
    at_end false e = absurd cc
same_faults (suc n) s [] b e = at_end (may_end s) e
  where
    at_end : (r : Bool) → cond r (Ok false) (Err Cut) ≡ Ok b → (out : List ℕ) × (cond r (Ok []) (Err Cut) ≡ Ok out)
    at_end true e = ([], refl)
    at_end false e = absurd cc
same_faults zero s (x ∷ xs) b e = absurd cc
same_faults (suc n) s (x ∷ xs) b e =
    let o = bind_ok (step_at s (x ∷ xs)) (λ t. either t.blank (found_by n t.state (drop t.len (x ∷ xs)))) b e in
    let m = either_ok o.0.blank (found_by n o.0.state (drop o.0.len (x ∷ xs))) b o.2 in
    let r = same_faults n o.0.state (drop o.0.len (x ∷ xs)) m.0 m.1 in
    (chunk o.0 (x ∷ xs) ++ r.0, ap (λ r. r >>= λ t. behind (chunk t (x ∷ xs)) (erased_by n t.state (drop t.len (x ∷ xs)))) o.1 ∙ ap (behind (chunk o.0 (x ∷ xs))) r.1)
  where
    either_ok : (f : Bool) (x : Result Bool Fault) (b : Bool) → either f x ≡ Ok b → (m : Bool) × (x ≡ Ok m)
    either_ok f (Ok m) b e = (m, refl)
    either_ok f (Err d) b e = absurd cc

-- ---- the loops

-- the bytes from a location on
pub from_here : (p : List ℕ) (at : ℕ) (s : State) (r : Result Step Fault) → step_at s (take (length p - at) (drop at p)) ≡ r → step_at s (drop at p) ≡ r
from_here p at s r e = ap (step_at s) (sym (take_rest p at)) ∙ e

some_left : (p : List ℕ) (at : ℕ) → at < length p → 0 < length (drop at p)
some_left p at h = let d : length (drop at p) ≡ length p - at = length-drop at p in omega arith

pub goes_within : (p : List ℕ) (at : ℕ) (s : State) (t : Step) → at < length p → step_at s (drop at p) ≡ Ok t → at + t.len ≤ length p
goes_within p at s t h e =
    let r = step_token s (drop at p) t (some_left p at h) e in
    let w : t.len ≤ length (drop at p) = r.within in
    let d : length (drop at p) ≡ length p - at = length-drop at p in
    omega arith

pub goes_on : (p : List ℕ) (at : ℕ) (s : State) (t : Step) → at < length p → step_at s (drop at p) ≡ Ok t → 0 < t.len
goes_on p at s t h e = (step_token s (drop at p) t (some_left p at h) e).some

pub goes_deep : (p : List ℕ) (at : ℕ) (s : State) (t : Step) → at < length p → s.depth ≤ at → step_at s (drop at p) ≡ Ok t → t.state.depth ≤ at + t.len
goes_deep p at s t h l e =
    let r : 0 < t.len = goes_on p at s t h e in
    let d : t.state.depth ≤ s.depth + 1 = deeper s (drop at p) t e in
    omega arith

pub found_next : (p : List ℕ) (at : ℕ) (s : State) (t : Step) (f g : Bool) (x : Result Bool Fault) → at < length p → step_at s (drop at p) ≡ Ok t → g ≡ (t.blank || f) → x ≡ either f (found_by (length (drop at p)) s (drop at p)) → x ≡ either g (found_by (length (drop (at + t.len) p)) t.state (drop (at + t.len) p))
found_next p at s t f g x h e q o =
    o ∙ ap (either f) (found_step (length (drop at p)) s (drop at p) t (some_left p at h) (omega arith) e)
    ∙ either_both f t.blank (found_by (length (drop t.len (drop at p))) t.state (drop t.len (drop at p)))
    ∙ ap (λ b. either b (found_by (length (drop t.len (drop at p))) t.state (drop t.len (drop at p)))) (sym q)
    ∙ ap (λ a. either g (found_by (length a) t.state a)) (drop-drop t.len at p)

pub found_faulty : (p : List ℕ) (at : ℕ) (s : State) (d : Fault) (f : Bool) (x : Result Bool Fault) → at < length p → step_at s (drop at p) ≡ Err d → x ≡ either f (found_by (length (drop at p)) s (drop at p)) → x ≡ Err d
found_faulty p at s d f x h e o = o ∙ ap (either f) (found_refused (length (drop at p)) s (drop at p) d (some_left p at h) (omega arith) e)

pub found_over : (p : List ℕ) (at : ℕ) (s : State) (f r : Bool) (x : Result Bool Fault) → length p ≤ at → may_end s ≡ r → x ≡ either f (found_by (length (drop at p)) s (drop at p)) → x ≡ either f (cond r (Ok false) (Err Cut))
found_over p at s f r x h q o =
    o ∙ ap (λ a. either f (found_by (length a) s a)) (drop_of_length-le p h)
    ∙ ap (either f) (found_end 0 s ∙ ap (λ b. cond b (Ok false) (Err Cut)) q)

-- the packet with a token written, and what follows it
pub erased_next : (p : List ℕ) (at : ℕ) (s : State) (t : Step) (x : Result (List ℕ) Fault) (q : List ℕ) → at < length p → step_at s (drop at p) ≡ Ok t → take (at + t.len) q ≡ take at p ++ chunk t (drop at p) → drop (at + t.len) q ≡ drop (at + t.len) p → x ≡ behind (take at p) (erased_by (length (drop at p)) s (drop at p)) → x ≡ behind (take (at + t.len) q) (erased_by (length (drop (at + t.len) q)) t.state (drop (at + t.len) q))
erased_next p at s t x q h e front rest o =
    o ∙ ap (behind (take at p)) (erased_step (length (drop at p)) s (drop at p) t (some_left p at h) (omega arith) e)
    ∙ behind_both (take at p) (chunk t (drop at p)) (erased_by (length (drop t.len (drop at p))) t.state (drop t.len (drop at p)))
    ∙ ap (λ a. behind (take at p ++ chunk t (drop at p)) (erased_by (length a) t.state a)) (drop-drop t.len at p ∙ sym rest)
    ∙ ap (λ a. behind a (erased_by (length (drop (at + t.len) q)) t.state (drop (at + t.len) q))) (sym front)

-- a token that stays
pub stays : (p : List ℕ) (at : ℕ) (t : Step) → t.blank ≡ false → take (at + t.len) p ≡ take at p ++ chunk t (drop at p)
stays p at t b = take-add at t.len p ∙ ap (λ c. take at p ++ cond c (replicate t.len 32) (take t.len (drop at p))) (sym b)

-- a token that becomes spaces
pub blanks : (p q : List ℕ) (at : ℕ) (t : Step) → at + t.len ≤ length p → t.blank ≡ true → q ≡ take at p ++ (replicate ((at + t.len) - at) 32 ++ drop (at + t.len) p) → (take (at + t.len) q ≡ take at p ++ chunk t (drop at p)) × (drop (at + t.len) q ≡ drop (at + t.len) p)
blanks p q at t h b e =
    let n : (at + t.len) - at ≡ t.len = omega arith in
    let spaces : List ℕ = replicate t.len 32 in
    let m : length (take at p) ≡ at = length-take-le at p (omega arith) in
    let r : length spaces ≡ t.len = length-replicate t.len 32 in
    let front : List ℕ = take at p ++ spaces in
    let l : length front ≡ at + t.len = length-append (take at p) spaces ∙ ap (λ z. z + length spaces) m ∙ ap (λ z. at + z) r in
    let w : q ≡ front ++ drop (at + t.len) p = e ∙ ap (λ z. take at p ++ (replicate z 32 ++ drop (at + t.len) p)) n ∙ sym (append_assoc (take at p) (replicate t.len 32) (drop (at + t.len) p)) in (
      ap (take (at + t.len)) w ∙ take-append-le (at + t.len) front (drop (at + t.len) p) (omega arith) ∙ ap (λ z. take z front) (sym l) ∙ take-length front
          ∙ ap (λ c. take at p ++ cond c (replicate t.len 32) (take t.len (drop at p))) (sym b),
      ap (drop (at + t.len)) w ∙ drop_at front (drop (at + t.len) p) (at + t.len) l,
    )

pub erased_faulty : (p : List ℕ) (at : ℕ) (s : State) (d : Fault) (x : Result (List ℕ) Fault) → at < length p → step_at s (drop at p) ≡ Err d → x ≡ behind (take at p) (erased_by (length (drop at p)) s (drop at p)) → IsOk x → ⊥
erased_faulty p at s d x h e o k =
    let r : x ≡ Err d = o ∙ ap (behind (take at p)) (erased_refused (length (drop at p)) s (drop at p) d (some_left p at h) (omega arith) e) in
    let z : is_ok (err d) ≡ true = ap is_ok (sym r) ∙ k in absurd cc
  where
    err : Fault → Result (List ℕ) Fault
    err d = Err d

pub erased_over : (p : List ℕ) (at : ℕ) (s : State) (x : Result (List ℕ) Fault) → at ≡ length p → x ≡ behind (take at p) (erased_by (length (drop at p)) s (drop at p)) → IsOk x → x ≡ Ok p
erased_over p at s x h o k =
    let e : x ≡ behind (take at p) (cond (may_end s) (Ok []) (Err Cut)) =
    o ∙ ap (λ a. behind (take at p) (erased_by (length a) s a)) (drop_of_length-le p (omega arith)) ∙ ap (behind (take at p)) (erased_end 0 s) in
    ended (may_end s) e
  where
    ended : (r : Bool) → x ≡ behind (take at p) (cond r (Ok []) (Err Cut)) → x ≡ Ok p
    ended true e = e ∙ ap Ok (append-nil (take at p) ∙ ap (λ n. take n p) h ∙ take-length p)
    ended false e = absurd (let z : is_ok (behind (take at p) (Err Cut)) ≡ true = ap is_ok (sym e) ∙ k in cc)

-- a walk that finds is one that erases
pub ok_of_found : (p : List ℕ) (b : Bool) → found p ≡ Ok b → IsOk (erased p)
ok_of_found p b e = let r = same_faults (length p) at_start p b e in ap is_ok r.1
