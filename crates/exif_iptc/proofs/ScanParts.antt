-- The parts of data that a scan finds.
use Rattle.std.proofs.Common.{◌≡◌, ℕ, zero, suc, ◌+◌, ◌*◌, ◌-◌, ◌≤◌, ◌⊎◌, inl, inr, Bool, true, false, cond, eqb, ltb, List, [], ◌∷◌, ◌++◌, length, drop, get_or, Option, Some, None, Result, Ok, Err, ap, sym, refl, subst, ◌∙◌, arith, length-drop, append-nil, append_assoc}
use Rattle.std.proofs.lemmas.Bool.{ltb-false}
use Rattle.std.proofs.lemmas.List.{drop-drop}
use Rattle.std.proofs.Math.ListN.{drop_of_length-le}
use Rattle.exif_iptc.specs.declared.dataset.Dataset.{Dataset}
use Rattle.exif_iptc.specs.declared.fault.Fault.{Fault}
use Rattle.exif_iptc.specs.declared.fault.Refusal.{Refusal}
use Rattle.exif_iptc.specs.declared.header.Header.{Header}
use Rattle.exif_iptc.specs.Datasets.{IsWithin, ScanOutcome, after, all_zero, dataset_at, dataset_of, extended_len, extended_of, next_at, placed, scan, scan_by, some_header}
use Rattle.exif_iptc.specs.Promises.{CoversAll, InOrder, end_of}

-- which way a test went
chosen : {A : Type 0} (b : Bool) {x y z : A} → cond b x y ≡ z → ((b ≡ true) × (x ≡ z)) ⊎ ((b ≡ false) × (y ≡ z))
chosen true e = inl (refl, e)
chosen false e = inr (refl, e)

ok_same : {A : Type 0} {x y : A} → let r : Result A Fault = Ok x in r ≡ Ok y → x ≡ y
ok_same e = cc

-- a dataset is in its data
of_within : (input : List ℕ) (h v : ℕ) (d : Header) → 5 ≤ h → h ≤ length input → dataset_of input h v ≡ Ok d → IsWithin input d
of_within input h v d five l e =
    elim (chosen (ltb (length input - h) v) e) [
      | inl w ↦ absurd (let x = w.1 in cc)
      | inr w ↦ (let header : h ≡ d.header_len = ap (λ (y : Header). y.header_len) (ok_same w.1) in
          let len : h + v ≡ d.len = ap (λ (y : Header). y.len) (ok_same w.1) in
          let n : v ≤ length input - h = ltb-false (length input - h) v w.0 in
          record { header = omega arith; value = omega arith; whole = omega arith })
    ]

extended_within : (input : List ℕ) (count : ℕ) (d : Header) → extended_of input count ≡ Ok d → IsWithin input d
extended_within input count d e =
    elim (chosen (ltb 8 count) e) [
      | inl w ↦ absurd (let x = w.1 in cc)
      | inr w ↦ elim (chosen (ltb (length input) (5 + count)) w.1) [
        | inl v ↦ absurd (let x = v.1 in cc)
        | inr v ↦ of_within input (5 + count) (extended_len input count) d (omega arith) (ltb-false (length input) (5 + count) v.0) v.1
      ]
    ]

at_within : (input : List ℕ) (d : Header) → dataset_at input ≡ Ok d → IsWithin input d
unfolding dataset_at
at_within input d e =
    elim (chosen (eqb (get_or input 0 0) 28) e) [
      | inr w ↦ absurd (let x = w.1 in cc)
      | inl w ↦ elim (chosen (ltb (length input) 5) w.1) [
        | inl v ↦ absurd (let x = v.1 in cc)
        | inr v ↦ elim (chosen (ltb (get_or input 3 0) 128) v.1) [
          | inl u ↦ of_within input 5 (256 * get_or input 3 0 + get_or input 4 0) d (omega arith) (ltb-false (length input) 5 v.0) u.1
          | inr u ↦ extended_within input (256 * (get_or input 3 0 - 128) + get_or input 4 0) d u.1
        ]
      ]
    ]

some_is : (r : Result Header Fault) (h : Header) → some_header r ≡ Ok (Some h) → r ≡ Ok h
some_is (Ok x) h e = cc
some_is (Err f) h e = absurd cc

not_none : (r : Result Header Fault) → some_header r ≡ Ok None → ⊥
not_none (Ok x) e = cc
not_none (Err f) e = cc

-- the next dataset is in the data
next_within : (left : List ℕ) (h : Header) → next_at left ≡ Ok (Some h) → IsWithin left h
next_within left h e =
    elim (chosen (all_zero left) e) [
      | inl w ↦ absurd (let x = w.1 in cc)
      | inr w ↦ at_within left h (some_is (dataset_at left) h w.1)
    ]

-- where none is next, only zeros are left
zeros_left : (left : List ℕ) → next_at left ≡ Ok None → all_zero left ≡ true
zeros_left left e =
    elim (chosen (all_zero left) e) [
      | inl w ↦ w.0
      | inr w ↦ absurd (not_none (dataset_at left) w.1)
    ]

-- what a scan finds from an offset on
record Parts (p : List ℕ) (offset : ℕ) (found : List Dataset) (s : ScanOutcome) : Type 0 where
  more : List Dataset
  all : s.datasets ≡ found ++ more
  in_order : InOrder offset (length p) more
  zeros : s.refusal ≡ None → all_zero (drop (end_of offset more) p) ≡ true
  refused : (r : Refusal) → s.refusal ≡ Some r → r.offset ≡ end_of offset more

Rest : ℕ → List ℕ → Type 0
Rest n p = (offset : ℕ) (found : List Dataset) → offset ≤ length p → length p ≤ offset + n → Parts p offset found (scan_by n offset found (drop offset p))

part : (n offset : ℕ) (found : List Dataset) (p : List ℕ) (r : Result (Option Header) Fault) → offset ≤ length p → length p ≤ offset + suc n → next_at (drop offset p) ≡ r → Rest n p
    → Parts p offset found (after offset found (λ h. scan_by n (offset + h.len) (found ++ placed offset h ∷ []) (drop h.len (drop offset p))) r)
unfolding Rest
part n offset found p (Ok None) within fuel e rest = record {
  more = [];
  all = sym (append-nil found);
  in_order = within;
  zeros = λ _. zeros_left (drop offset p) e;
  refused = λ r none. absurd cc;
}
part n offset found p (Err f) within fuel e rest = record {
  more = [];
  all = sym (append-nil found);
  in_order = within;
  zeros = λ none. absurd cc;
  refused = λ r some. (let same : (record { fault = f; offset = offset }) ≡ r = cc in sym (ap (λ (x : Refusal). x.offset) same));
}
part n offset found p (Ok (Some h)) within fuel e rest =
    let w : IsWithin (drop offset p) h = next_within (drop offset p) h e in
    let left : length (drop offset p) ≡ length p - offset = length-drop offset p in
    let header : 5 ≤ h.header_len = w.header in
    let value : h.header_len ≤ h.len = w.value in
    let whole : h.len ≤ length (drop offset p) = w.whole in
    let d = placed offset h in
    let next : Parts p (offset + h.len) (found ++ d ∷ []) (scan_by n (offset + h.len) (found ++ d ∷ []) (drop h.len (drop offset p))) =
    subst (λ (xs : List ℕ). Parts p (offset + h.len) (found ++ d ∷ []) (scan_by n (offset + h.len) (found ++ d ∷ []) xs)) (sym (drop-drop h.len offset p))
    (rest (offset + h.len) (found ++ d ∷ []) (omega arith) (omega arith)) in
    record {
      more = d ∷ next.more;
      all = next.all ∙ append_assoc found (d ∷ []) next.more;
      in_order = (omega arith, (omega arith, next.in_order));
      zeros = next.zeros;
      refused = next.refused;
    }

parts : (n : ℕ) (p : List ℕ) → Rest n p
unfolding Rest scan_by
parts zero p offset found within fuel =
    let none : drop offset p ≡ [] = drop_of_length-le p (omega arith) in
    record {
      more = [];
      all = sym (append-nil found);
      in_order = within;
      zeros = λ _. ap all_zero none;
      refused = λ r some. absurd cc;
    }
parts (suc n) p offset found within fuel = part n offset found p (next_at (drop offset p)) within fuel refl (parts n p)

-- a scan covers all data
pub covers : (input : List ℕ) → CoversAll input (scan input)
unfolding Rest
covers input =
    let all = parts (length input) input 0 [] (omega arith) (omega arith) in
    record {
      in_order = subst (InOrder 0 (length input)) (sym all.all) all.in_order;
      zeros = λ none. ap (λ ds. all_zero (drop (end_of 0 ds) input)) all.all ∙ all.zeros none;
      refused = λ r some. all.refused r some ∙ ap (end_of 0) (sym all.all);
    }
