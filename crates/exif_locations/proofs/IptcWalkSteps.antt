-- A walk over data, dataset after dataset.
use Rattle.std.proofs.Common.{◌≡◌, ℕ, zero, suc, ◌+◌, ◌-◌, ◌*◌, ◌<◌, ◌≤◌, Bool, true, false, cond, List, [], ◌∷◌, ◌++◌, length, take, drop, replicate, get_or, Result, Ok, Err, IsOk, is_ok, refl, ap, sym, ◌∙◌, arith, ◌||◌, ◌⊎◌, inl, inr, eqb, ltb, leb, length-drop, length-append, append_assoc, append-nil}
use Rattle.std.proofs.lemmas.Bool.{eqb-true, ltb-false}
use Rattle.std.proofs.lemmas.List.{drop-drop, drop_at, length-replicate, length-take-le, take-append-drop, take-append-le, take_rest}
use Rattle.std.proofs.Math.Seq.{take-add, take-length}
use Rattle.std.proofs.Math.ListN.{drop_of_length-le}
use Rattle.exif_locations.specs.declared.iptc.fault.Fault.{Fault}
use Rattle.exif_locations.specs.declared.iptc.fault.Fault.TheVariants.{NoDataset}
use Rattle.exif_locations.specs.declared.iptc.dataset.Dataset.{Dataset}
use Rattle.exif_locations.specs.IptcDatasets.{◌>>=◌, all_zero, behind, chunk, dataset_at, either, erased, erased_by, found, found_by}

-- which way a test went
pub chosen : {A : Type 0} (b : Bool) {x y z : A} → cond b x y ≡ z → ((b ≡ true) × (x ≡ z)) ⊎ ((b ≡ false) × (y ≡ z))
chosen true e = inl (refl, e)
chosen false e = inr (refl, e)

pub ok_same : {A : Type 0} {x y : A} → let r : Result A Fault = Ok x in r ≡ Ok y → x ≡ y
ok_same e = cc

pub bind_ok : {A B : Type 0} (r : Result A Fault) (f : A → Result B Fault) (y : B) → (r >>= f) ≡ Ok y → (x : A) × (r ≡ Ok x) × (f x ≡ Ok y)
bind_ok (Ok x) f y e = (x, refl, e)
bind_ok (Err d) f y e = absurd cc

pub bind_same : {A B : Type 0} (r : Result A Fault) (f g : A → Result B Fault) → ((x : A) → r ≡ Ok x → f x ≡ g x) → (r >>= f) ≡ (r >>= g)
bind_same (Ok x) f g h = h x refl
bind_same (Err e) f g h = refl

-- a dataset has its front, and is within its input
pub sized : (a : List ℕ) (d : Dataset) → dataset_at a ≡ Ok d → (5 ≤ d.len) × (d.len ≤ length a)
unfolding dataset_at
sized a d e =
    elim (chosen (eqb (get_or a 0 0) 28) e) [
      | inr w ↦ absurd (let v = w.1 in cc)
      | inl w ↦ elim (chosen (ltb (length a) 5) w.1) [
        | inl v ↦ absurd (let u = v.1 in cc)
        | inr v ↦ elim (chosen (leb 128 (get_or a 3 0)) v.1) [
          | inl u ↦ absurd (let x = u.1 in cc)
          | inr u ↦ elim (chosen (ltb (length a) (5 + 256 * get_or a 3 0 + get_or a 4 0)) u.1) [
            | inl x ↦ absurd (let y = x.1 in cc)
            | inr x ↦ (let l : 5 + 256 * get_or a 3 0 + get_or a 4 0 ≡ d.len = ap (λ (y : Dataset). y.len) (ok_same x.1) in
                let n = ltb-false (length a) (5 + 256 * get_or a 3 0 + get_or a 4 0) x.0 in (omega arith, omega arith))
          ]
        ]
      ]
    ]

pub shorter : (a : List ℕ) (d : Dataset) (n : ℕ) → length a ≤ suc n → dataset_at a ≡ Ok d → length (drop d.len a) ≤ n
shorter a d n l e =
    let s = sized a d e in
    let f : 5 ≤ d.len = s.0 in
    let w : d.len ≤ length a = s.1 in
    let q : length (drop d.len a) ≡ length a - d.len = length-drop d.len a in
    omega arith

pub found_any : (n k : ℕ) (a : List ℕ) → length a ≤ n → length a ≤ k → found_by n a ≡ found_by k a
unfolding found_by
found_any zero zero [] h l = refl
found_any zero (suc k) [] h l = refl
found_any (suc n) zero [] h l = refl
found_any (suc n) (suc k) [] h l = refl
found_any zero k (b ∷ bs) h l = absurd (omega arith)
found_any (suc n) zero (b ∷ bs) h l = absurd (omega arith)
found_any (suc n) (suc k) (b ∷ bs) h l =
    ap (cond (eqb b 0) (cond (all_zero (b ∷ bs)) (Ok false) (Err NoDataset)))
    (bind_same (dataset_at (b ∷ bs)) (λ d. either d.location (found_by n (drop d.len (b ∷ bs)))) (λ d. either d.location (found_by k (drop d.len (b ∷ bs))))
    (λ d e. ap (either d.location) (found_any n k (drop d.len (b ∷ bs)) (shorter (b ∷ bs) d n h e) (shorter (b ∷ bs) d k l e))))

pub erased_any : (n k : ℕ) (a : List ℕ) → length a ≤ n → length a ≤ k → erased_by n a ≡ erased_by k a
unfolding erased_by
erased_any zero zero [] h l = refl
erased_any zero (suc k) [] h l = refl
erased_any (suc n) zero [] h l = refl
erased_any (suc n) (suc k) [] h l = refl
erased_any zero k (b ∷ bs) h l = absurd (omega arith)
erased_any (suc n) zero (b ∷ bs) h l = absurd (omega arith)
erased_any (suc n) (suc k) (b ∷ bs) h l =
    ap (cond (eqb b 0) (cond (all_zero (b ∷ bs)) (Ok (b ∷ bs)) (Err NoDataset)))
    (bind_same (dataset_at (b ∷ bs)) (λ d. behind (chunk d (b ∷ bs)) (erased_by n (drop d.len (b ∷ bs)))) (λ d. behind (chunk d (b ∷ bs)) (erased_by k (drop d.len (b ∷ bs))))
    (λ d e. ap (behind (chunk d (b ∷ bs))) (erased_any n k (drop d.len (b ∷ bs)) (shorter (b ∷ bs) d n h e) (shorter (b ∷ bs) d k l e))))

-- one dataset of a walk, or none
pub found_on : (k : ℕ) (a : List ℕ) → 0 < length a → length a ≤ k → eqb (get_or a 0 0) 0 ≡ false → found_by k a ≡ (dataset_at a >>= λ d. either d.location (found_by (length (drop d.len a)) (drop d.len a)))
unfolding found_by
found_on k [] h l z = absurd (omega arith)
found_on zero (b ∷ bs) h l z = absurd (omega arith)
found_on (suc k) (b ∷ bs) h l z =
    ap (λ t. cond t (cond (all_zero (b ∷ bs)) (Ok false) (Err NoDataset)) (dataset_at (b ∷ bs) >>= λ d. either d.location (found_by k (drop d.len (b ∷ bs))))) z
    ∙ bind_same (dataset_at (b ∷ bs)) (λ d. either d.location (found_by k (drop d.len (b ∷ bs)))) (λ d. either d.location (found_by (length (drop d.len (b ∷ bs))) (drop d.len (b ∷ bs))))
    (λ d e. ap (either d.location) (found_any k (length (drop d.len (b ∷ bs))) (drop d.len (b ∷ bs)) (shorter (b ∷ bs) d k l e) (omega arith)))

pub erased_on : (k : ℕ) (a : List ℕ) → 0 < length a → length a ≤ k → eqb (get_or a 0 0) 0 ≡ false → erased_by k a ≡ (dataset_at a >>= λ d. behind (chunk d a) (erased_by (length (drop d.len a)) (drop d.len a)))
unfolding erased_by
erased_on k [] h l z = absurd (omega arith)
erased_on zero (b ∷ bs) h l z = absurd (omega arith)
erased_on (suc k) (b ∷ bs) h l z =
    ap (λ t. cond t (cond (all_zero (b ∷ bs)) (Ok (b ∷ bs)) (Err NoDataset)) (dataset_at (b ∷ bs) >>= λ d. behind (chunk d (b ∷ bs)) (erased_by k (drop d.len (b ∷ bs))))) z
    ∙ bind_same (dataset_at (b ∷ bs)) (λ d. behind (chunk d (b ∷ bs)) (erased_by k (drop d.len (b ∷ bs)))) (λ d. behind (chunk d (b ∷ bs)) (erased_by (length (drop d.len (b ∷ bs))) (drop d.len (b ∷ bs))))
    (λ d e. ap (behind (chunk d (b ∷ bs))) (erased_any k (length (drop d.len (b ∷ bs))) (drop d.len (b ∷ bs)) (shorter (b ∷ bs) d k l e) (omega arith)))

pub found_zeros : (k : ℕ) (a : List ℕ) (t : Bool) → 0 < length a → length a ≤ k → eqb (get_or a 0 0) 0 ≡ true → all_zero a ≡ t → found_by k a ≡ cond t (Ok false) (Err NoDataset)
unfolding found_by
found_zeros k [] t h l z y = absurd (omega arith)
found_zeros zero (b ∷ bs) t h l z y = absurd (omega arith)
found_zeros (suc k) (b ∷ bs) t h l z y =
    ap (λ t. cond t (cond (all_zero (b ∷ bs)) (Ok false) (Err NoDataset)) (dataset_at (b ∷ bs) >>= λ d. either d.location (found_by k (drop d.len (b ∷ bs))))) z
    ∙ ap (λ t. cond t (Ok false) (Err NoDataset)) y

pub erased_zeros : (k : ℕ) (a : List ℕ) (t : Bool) → 0 < length a → length a ≤ k → eqb (get_or a 0 0) 0 ≡ true → all_zero a ≡ t → erased_by k a ≡ cond t (Ok a) (Err NoDataset)
unfolding erased_by
erased_zeros k [] t h l z y = absurd (omega arith)
erased_zeros zero (b ∷ bs) t h l z y = absurd (omega arith)
erased_zeros (suc k) (b ∷ bs) t h l z y =
    ap (λ t. cond t (cond (all_zero (b ∷ bs)) (Ok (b ∷ bs)) (Err NoDataset)) (dataset_at (b ∷ bs) >>= λ d. behind (chunk d (b ∷ bs)) (erased_by k (drop d.len (b ∷ bs))))) z
    ∙ ap (λ t. cond t (Ok (b ∷ bs)) (Err NoDataset)) y

pub found_end : (k : ℕ) → found_by k [] ≡ Ok false
unfolding found_by
found_end zero = refl
found_end (suc k) = refl

pub erased_end : (k : ℕ) → erased_by k [] ≡ Ok []
unfolding erased_by
erased_end zero = refl
erased_end (suc k) = refl

either_both : (f b : Bool) (x : Result Bool Fault) → either f (either b x) ≡ either (b || f) x
either_both true true (Ok x) = refl
either_both true false (Ok x) = refl
either_both false true (Ok x) = refl
either_both false false (Ok x) = refl
either_both f b (Err e) = refl

behind_both : (a b : List ℕ) (x : Result (List ℕ) Fault) → behind a (behind b x) ≡ behind (a ++ b) x
behind_both a b (Ok x) = ap Ok (sym (append_assoc a b x))
behind_both a b (Err e) = refl

or_false : (b : Bool) → (b || false) ≡ b
or_false true = refl
or_false false = refl

-- ---- the loops

pub from_here : (p : List ℕ) (at : ℕ) (r : Result Dataset Fault) → dataset_at (take (length p - at) (drop at p)) ≡ r → dataset_at (drop at p) ≡ r
from_here p at r e = ap dataset_at (sym (take_rest p at)) ∙ e

some_left : (p : List ℕ) (at : ℕ) → at < length p → 0 < length (drop at p)
some_left p at h = let d : length (drop at p) ≡ length p - at = length-drop at p in omega arith

pub byte_here : (p : List ℕ) (at : ℕ) → get_or (drop at p) 0 0 ≡ get_or p at 0
byte_here [] zero = refl
byte_here [] (suc at) = refl
byte_here (b ∷ p) zero = refl
byte_here (b ∷ p) (suc at) = byte_here p at

test_here : (p : List ℕ) (at : ℕ) (t : Bool) → eqb (get_or p at 0) 0 ≡ t → eqb (get_or (drop at p) 0 0) 0 ≡ t
test_here p at t e = ap (λ b. eqb b 0) (byte_here p at) ∙ e

pub goes_within : (p : List ℕ) (at : ℕ) (d : Dataset) → at < length p → dataset_at (drop at p) ≡ Ok d → (at + 5 ≤ at + d.len) × (at + d.len ≤ length p)
goes_within p at d h e =
    let s = sized (drop at p) d e in
    let f : 5 ≤ d.len = s.0 in
    let w : d.len ≤ length (drop at p) = s.1 in
    let q : length (drop at p) ≡ length p - at = length-drop at p in
    (omega arith, omega arith)

pub found_next : (p : List ℕ) (at : ℕ) (d : Dataset) (f g : Bool) (x : Result Bool Fault) → at < length p → eqb (get_or p at 0) 0 ≡ false → dataset_at (drop at p) ≡ Ok d → g ≡ (d.location || f) → x ≡ either f (found_by (length (drop at p)) (drop at p)) → x ≡ either g (found_by (length (drop (at + d.len) p)) (drop (at + d.len) p))
found_next p at d f g x h z e q o =
    o ∙ ap (either f) (found_on (length (drop at p)) (drop at p) (some_left p at h) (omega arith) (test_here p at false z) ∙ ap (λ r. r >>= λ d. either d.location (found_by (length (drop d.len (drop at p))) (drop d.len (drop at p)))) e)
    ∙ either_both f d.location (found_by (length (drop d.len (drop at p))) (drop d.len (drop at p)))
    ∙ ap (λ b. either b (found_by (length (drop d.len (drop at p))) (drop d.len (drop at p)))) (sym q)
    ∙ ap (λ a. either g (found_by (length a) a)) (drop-drop d.len at p)

pub found_faulty : (p : List ℕ) (at : ℕ) (c : Fault) (f : Bool) (x : Result Bool Fault) → at < length p → eqb (get_or p at 0) 0 ≡ false → dataset_at (drop at p) ≡ Err c → x ≡ either f (found_by (length (drop at p)) (drop at p)) → x ≡ Err c
found_faulty p at c f x h z e o =
    o ∙ ap (either f) (found_on (length (drop at p)) (drop at p) (some_left p at h) (omega arith) (test_here p at false z) ∙ ap (λ r. r >>= λ d. either d.location (found_by (length (drop d.len (drop at p))) (drop d.len (drop at p)))) e)

pub found_padded : (p : List ℕ) (at : ℕ) (f t : Bool) (x : Result Bool Fault) → at < length p → eqb (get_or p at 0) 0 ≡ true → all_zero (take (length p - at) (drop at p)) ≡ t → x ≡ either f (found_by (length (drop at p)) (drop at p)) → x ≡ either f (cond t (Ok false) (Err NoDataset))
found_padded p at f t x h z y o =
    o ∙ ap (either f) (found_zeros (length (drop at p)) (drop at p) t (some_left p at h) (omega arith) (test_here p at true z) (ap all_zero (sym (take_rest p at)) ∙ y))

pub found_over : (p : List ℕ) (at : ℕ) (f : Bool) (x : Result Bool Fault) → length p ≤ at → x ≡ either f (found_by (length (drop at p)) (drop at p)) → x ≡ Ok f
found_over p at f x h o = o ∙ ap (λ a. either f (found_by (length a) a)) (drop_of_length-le p h) ∙ ap (either f) (found_end 0) ∙ ap Ok (or_false f)

pub none_more : (f : Bool) (x : Result Bool Fault) → x ≡ either f (Ok false) → x ≡ Ok f
none_more f x e = e ∙ ap Ok (or_false f)

pub erased_next : (p : List ℕ) (at : ℕ) (d : Dataset) (x : Result (List ℕ) Fault) (q : List ℕ) → at < length p → eqb (get_or p at 0) 0 ≡ false → dataset_at (drop at p) ≡ Ok d → take (at + d.len) q ≡ take at p ++ chunk d (drop at p) → drop (at + d.len) q ≡ drop (at + d.len) p → x ≡ behind (take at p) (erased_by (length (drop at p)) (drop at p)) → x ≡ behind (take (at + d.len) q) (erased_by (length (drop (at + d.len) q)) (drop (at + d.len) q))
erased_next p at d x q h z e front rest o =
    o ∙ ap (behind (take at p)) (erased_on (length (drop at p)) (drop at p) (some_left p at h) (omega arith) (test_here p at false z) ∙ ap (λ r. r >>= λ d. behind (chunk d (drop at p)) (erased_by (length (drop d.len (drop at p))) (drop d.len (drop at p)))) e)
    ∙ behind_both (take at p) (chunk d (drop at p)) (erased_by (length (drop d.len (drop at p))) (drop d.len (drop at p)))
    ∙ ap (λ a. behind (take at p ++ chunk d (drop at p)) (erased_by (length a) a)) (drop-drop d.len at p ∙ sym rest)
    ∙ ap (λ a. behind a (erased_by (length (drop (at + d.len) q)) (drop (at + d.len) q))) (sym front)

pub stays : (p : List ℕ) (at : ℕ) (d : Dataset) → d.location ≡ false → take (at + d.len) p ≡ take at p ++ chunk d (drop at p)
stays p at d b = take-add at d.len p ∙ ap (λ c. take at p ++ cond c (take 5 (drop at p) ++ replicate (d.len - 5) 32) (take d.len (drop at p))) (sym b)

pub blanks : (p q : List ℕ) (at : ℕ) (d : Dataset) → 5 ≤ d.len → at + d.len ≤ length p → d.location ≡ true → q ≡ take (at + 5) p ++ (replicate ((at + d.len) - (at + 5)) 32 ++ drop (at + d.len) p) → (take (at + d.len) q ≡ take at p ++ chunk d (drop at p)) × (drop (at + d.len) q ≡ drop (at + d.len) p)
blanks p q at d f w b e =
    let n : (at + d.len) - (at + 5) ≡ d.len - 5 = omega arith in
    let spaces : List ℕ = replicate (d.len - 5) 32 in
    let m : length (take (at + 5) p) ≡ at + 5 = length-take-le (at + 5) p (omega arith) in
    let r : length spaces ≡ d.len - 5 = length-replicate (d.len - 5) 32 in
    let front : List ℕ = take (at + 5) p ++ spaces in
    let a : length front ≡ length (take (at + 5) p) + length spaces = length-append (take (at + 5) p) spaces in
    let l : length front ≡ at + d.len = omega arith in
    let v : q ≡ front ++ drop (at + d.len) p = e ∙ ap (λ z. take (at + 5) p ++ (replicate z 32 ++ drop (at + d.len) p)) n ∙ sym (append_assoc (take (at + 5) p) spaces (drop (at + d.len) p)) in (
      ap (take (at + d.len)) v ∙ take-append-le (at + d.len) front (drop (at + d.len) p) (omega arith) ∙ ap (λ z. take z front) (sym l) ∙ take-length front
          ∙ ap (λ z. z ++ spaces) (take-add at 5 p) ∙ append_assoc (take at p) (take 5 (drop at p)) spaces
          ∙ ap (λ c. take at p ++ cond c (take 5 (drop at p) ++ spaces) (take d.len (drop at p))) (sym b),
      ap (drop (at + d.len)) v ∙ drop_at front (drop (at + d.len) p) (at + d.len) l,
    )

err : Fault → Result (List ℕ) Fault
err d = Err d

no_error : (d : Fault) → is_ok (err d) ≡ true → ⊥
unfolding err
no_error d e = cc

pub erased_faulty : (p : List ℕ) (at : ℕ) (c : Fault) (x : Result (List ℕ) Fault) → at < length p → eqb (get_or p at 0) 0 ≡ false → dataset_at (drop at p) ≡ Err c → x ≡ behind (take at p) (erased_by (length (drop at p)) (drop at p)) → IsOk x → ⊥
unfolding err
erased_faulty p at c x h z e o k =
    let r : x ≡ err c = o ∙ ap (behind (take at p)) (erased_on (length (drop at p)) (drop at p) (some_left p at h) (omega arith) (test_here p at false z) ∙ ap (λ r. r >>= λ d. behind (chunk d (drop at p)) (erased_by (length (drop d.len (drop at p))) (drop d.len (drop at p)))) e) in
    no_error c (ap is_ok (sym r) ∙ k)

pub erased_over : (p : List ℕ) (at : ℕ) (x : Result (List ℕ) Fault) → at ≡ length p → x ≡ behind (take at p) (erased_by (length (drop at p)) (drop at p)) → x ≡ Ok p
erased_over p at x h o =
    o ∙ ap (λ a. behind (take at p) (erased_by (length a) a)) (drop_of_length-le p (omega arith)) ∙ ap (behind (take at p)) (erased_end 0)
    ∙ ap Ok (append-nil (take at p) ∙ ap (λ n. take n p) h ∙ take-length p)

pub erased_padded : (p : List ℕ) (at : ℕ) (x : Result (List ℕ) Fault) → at < length p → eqb (get_or p at 0) 0 ≡ true → x ≡ behind (take at p) (erased_by (length (drop at p)) (drop at p)) → IsOk x → x ≡ Ok p
unfolding err
erased_padded p at x h z o k = by_test (all_zero (drop at p)) refl
  where
    by_test : (t : Bool) → all_zero (drop at p) ≡ t → x ≡ Ok p
    by_test true y = o ∙ ap (behind (take at p)) (erased_zeros (length (drop at p)) (drop at p) true (some_left p at h) (omega arith) (test_here p at true z) y) ∙ ap Ok (take-append-drop at p)
    by_test false y =
        let r : x ≡ err NoDataset = o ∙ ap (behind (take at p)) (erased_zeros (length (drop at p)) (drop at p) false (some_left p at h) (omega arith) (test_here p at true z) y) in
        absurd (no_error NoDataset (ap is_ok (sym r) ∙ k))

-- a walk that finds is one that erases
pub same_faults : (n : ℕ) (a : List ℕ) (b : Bool) → found_by n a ≡ Ok b → (out : List ℕ) × (erased_by n a ≡ Ok out)
unfolding found_by erased_by
same_faults zero [] b e = ([], refl)
same_faults (suc n) [] b e = ([], refl)
same_faults zero (x ∷ xs) b e = absurd cc
same_faults (suc n) (x ∷ xs) b e =
    elim (chosen (eqb x 0) e) [
      | inl w ↦ (let z = zeros (all_zero (x ∷ xs)) w.1 in (z.0, ap (λ t. cond t (cond (all_zero (x ∷ xs)) (Ok (x ∷ xs)) (Err NoDataset)) (dataset_at (x ∷ xs) >>= λ d. behind (chunk d (x ∷ xs)) (erased_by n (drop d.len (x ∷ xs))))) w.0 ∙ z.1))
      | inr w ↦ (let o = bind_ok (dataset_at (x ∷ xs)) (λ d. either d.location (found_by n (drop d.len (x ∷ xs)))) b w.1 in
          let m = either_ok o.0.location (found_by n (drop o.0.len (x ∷ xs))) b o.2 in
          let r = same_faults n (drop o.0.len (x ∷ xs)) m.0 m.1 in (
            chunk o.0 (x ∷ xs) ++ r.0,
            ap (λ t. cond t (cond (all_zero (x ∷ xs)) (Ok (x ∷ xs)) (Err NoDataset)) (dataset_at (x ∷ xs) >>= λ d. behind (chunk d (x ∷ xs)) (erased_by n (drop d.len (x ∷ xs))))) w.0
                ∙ ap (λ r. r >>= λ d. behind (chunk d (x ∷ xs)) (erased_by n (drop d.len (x ∷ xs)))) o.1 ∙ ap (behind (chunk o.0 (x ∷ xs))) r.1,
          ))
    ]
  where
    zeros : (t : Bool) → cond t (Ok false) (Err NoDataset) ≡ Ok b → (out : List ℕ) × (cond t (Ok (x ∷ xs)) (Err NoDataset) ≡ Ok out)
    zeros true e = (x ∷ xs, refl)
    zeros false e = absurd cc

    either_ok : (f : Bool) (x : Result Bool Fault) (b : Bool) → either f x ≡ Ok b → (m : Bool) × (x ≡ Ok m)
    either_ok f (Ok m) b e = (m, refl)
    either_ok f (Err d) b e = absurd cc

pub ok_of_found : (p : List ℕ) (b : Bool) → found p ≡ Ok b → IsOk (erased p)
ok_of_found p b e = ap is_ok (same_faults (length p) p b e).1

pub zero_byte : (x : ℕ) → x ≡ 0 → eqb x 0 ≡ true
zero_byte x e = ap (λ y. eqb y 0) e

pub other_byte : (x : ℕ) → (x ≡ 0 → ⊥) → eqb x 0 ≡ false
other_byte x n = by_test (eqb x 0) refl
  where
    by_test : (t : Bool) → eqb x 0 ≡ t → eqb x 0 ≡ false
    by_test true e = absurd (n (eqb-true x 0 e))
    by_test false e = e
