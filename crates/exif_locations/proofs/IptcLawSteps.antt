-- What holds of data whose locations were erased.
use Rattle.std.proofs.Common.{◌≡◌, ℕ, zero, suc, ◌+◌, ◌-◌, ◌*◌, ◌<◌, ◌≤◌, Bool, true, false, cond, List, [], ◌∷◌, ◌++◌, length, take, drop, replicate, get_or, Result, Ok, Err, refl, ap, sym, ◌∙◌, arith, ◌&&◌, inl, inr, eqb, ltb, leb, subst, length-drop, length-append, append_assoc}
use Rattle.std.proofs.lemmas.List.{drop_at, get_or-take, get_or_append_left, length-replicate, length-take-le, take-append-drop, take-append-le}
use Rattle.std.proofs.Math.Seq.{take-add, take-length}
use Rattle.exif_locations.specs.declared.iptc.fault.Fault.{Fault}
use Rattle.exif_locations.specs.declared.iptc.fault.Fault.TheVariants.{NoDataset, Extended, Cut}
use Rattle.exif_locations.specs.declared.iptc.dataset.Dataset.{Dataset}
use Rattle.exif_locations.specs.IptcDatasets.{◌>>=◌, all_spaces, all_zero, behind, blank_by, chunk, dataset_at, dataset_of, erased_by, is_location}
use Rattle.exif_locations.specs.Spaced.{IsSpaced}
use Rattle.exif_locations.proofs.IptcWalkSteps.{bind_ok, bind_same, chosen, erased_on, erased_zeros, ok_same, shorter, sized}

-- a dataset by what is looked at
dataset_from : ℕ → ℕ → ℕ → ℕ → ℕ → ℕ → Result Dataset Fault
dataset_from n a b c d e =
    cond (eqb a 28) (cond (ltb n 5) (Err Cut) (cond (leb 128 d) (Err Extended) (dataset_of n (5 + 256 * d + e) (is_location b c)))) (Err NoDataset)

-- the front of a input of m bytes, and more
index_front : (m i : ℕ) (a more : List ℕ) → i < m → m ≤ length a → get_or (take m a ++ more) i 0 ≡ get_or a i 0
index_front m i a more l h =
    let q : length (take m a) ≡ m = length-take-le m a h in
    get_or_append_left (take m a) more 0 i (omega arith) ∙ get_or-take m a i 0 l

-- inputs as long with the same front of 5 bytes begin with the same dataset
same_dataset : (a b : List ℕ) → length a ≡ length b → ((i : ℕ) → i < 5 → get_or b i 0 ≡ get_or a i 0) → dataset_at b ≡ dataset_at a
unfolding dataset_at dataset_from
same_dataset a b l h =
    ap (λ n. dataset_from n (get_or b 0 0) (get_or b 1 0) (get_or b 2 0) (get_or b 3 0) (get_or b 4 0)) (sym l)
    ∙ ap (λ x. dataset_from (length a) x (get_or b 1 0) (get_or b 2 0) (get_or b 3 0) (get_or b 4 0)) (h 0 (omega arith))
    ∙ ap (λ x. dataset_from (length a) (get_or a 0 0) x (get_or b 2 0) (get_or b 3 0) (get_or b 4 0)) (h 1 (omega arith))
    ∙ ap (λ x. dataset_from (length a) (get_or a 0 0) (get_or a 1 0) x (get_or b 3 0) (get_or b 4 0)) (h 2 (omega arith))
    ∙ ap (λ x. dataset_from (length a) (get_or a 0 0) (get_or a 1 0) (get_or a 2 0) x (get_or b 4 0)) (h 3 (omega arith))
    ∙ ap (λ x. dataset_from (length a) (get_or a 0 0) (get_or a 1 0) (get_or a 2 0) (get_or a 3 0) x) (h 4 (omega arith))

blank_any : (n k : ℕ) (a : List ℕ) → length a ≤ n → length a ≤ k → blank_by n a ≡ blank_by k a
unfolding blank_by
blank_any zero zero [] h l = refl
blank_any zero (suc k) [] h l = refl
blank_any (suc n) zero [] h l = refl
blank_any (suc n) (suc k) [] h l = refl
blank_any zero k (b ∷ bs) h l = absurd (omega arith)
blank_any (suc n) zero (b ∷ bs) h l = absurd (omega arith)
blank_any (suc n) (suc k) (b ∷ bs) h l =
    ap (cond (eqb b 0) (cond (all_zero (b ∷ bs)) (Ok true) (Err NoDataset)))
    (bind_same (dataset_at (b ∷ bs)) (λ d. blank_by n (drop d.len (b ∷ bs)) >>= λ more. Ok (cond d.location (all_spaces (take (d.len - 5) (drop 5 (b ∷ bs)))) true && more)) (λ d. blank_by k (drop d.len (b ∷ bs)) >>= λ more. Ok (cond d.location (all_spaces (take (d.len - 5) (drop 5 (b ∷ bs)))) true && more))
    (λ d e. ap (λ r. r >>= λ more. Ok (cond d.location (all_spaces (take (d.len - 5) (drop 5 (b ∷ bs)))) true && more)) (blank_any n k (drop d.len (b ∷ bs)) (shorter (b ∷ bs) d n h e) (shorter (b ∷ bs) d k l e))))

blank_on : (a rest : List ℕ) (d : Dataset) → 0 < length a → eqb (get_or a 0 0) 0 ≡ false → dataset_at a ≡ Ok d → drop d.len a ≡ rest → blank_by (length rest) rest ≡ Ok true → cond d.location (all_spaces (take (d.len - 5) (drop 5 a))) true ≡ true → blank_by (length a) a ≡ Ok true
unfolding blank_by
blank_on [] rest d h z e q r v = absurd (omega arith)
blank_on (b ∷ bs) rest d h z e q r v =
    ap (λ t. cond t (cond (all_zero (b ∷ bs)) (Ok true) (Err NoDataset)) (dataset_at (b ∷ bs) >>= λ d. (blank_by (length bs) (drop d.len (b ∷ bs)) >>= λ more. Ok (cond d.location (all_spaces (take (d.len - 5) (drop 5 (b ∷ bs)))) true && more)))) z
    ∙ ap (λ r. r >>= λ d. (blank_by (length bs) (drop d.len (b ∷ bs)) >>= λ more. Ok (cond d.location (all_spaces (take (d.len - 5) (drop 5 (b ∷ bs)))) true && more))) e
    ∙ ap (λ r. r >>= λ more. Ok (cond d.location (all_spaces (take (d.len - 5) (drop 5 (b ∷ bs)))) true && more))
    (blank_any (length bs) (length (drop d.len (b ∷ bs))) (drop d.len (b ∷ bs)) (shorter (b ∷ bs) d (length bs) (omega arith) e) (omega arith) ∙ ap (λ y. blank_by (length y) y) q ∙ r)
    ∙ ap (λ t. Ok (t && true)) v

spaces_are : (n : ℕ) → all_spaces (replicate n 32) ≡ true
spaces_are zero = refl
spaces_are (suc n) = spaces_are n

spaced_same : (a : List ℕ) → IsSpaced a a
spaced_same [] = tt
spaced_same (x ∷ a) = (inl refl, spaced_same a)

spaced_blank : (a : List ℕ) (n : ℕ) → length a ≡ n → IsSpaced a (replicate n 32)
spaced_blank [] zero e = tt
spaced_blank [] (suc n) e = absurd (omega arith)
spaced_blank (x ∷ a) zero e = absurd (omega arith)
spaced_blank (x ∷ a) (suc n) e = (inr refl, spaced_blank a n (omega arith))

spaced_both : (a b c d : List ℕ) → IsSpaced a b → IsSpaced c d → IsSpaced (a ++ c) (b ++ d)
spaced_both [] [] c d h l = l
spaced_both [] (y ∷ b) c d h l = absurd h
spaced_both (x ∷ a) [] c d h l = absurd h
spaced_both (x ∷ a) (y ∷ b) c d h l = (h.0, spaced_both a b c d h.1 l)

pub record Holds (input out : List ℕ) : Type 0 where
  pub len : length out ≡ length input
  pub bytes : IsSpaced input out
  pub again : erased_by (length out) out ≡ Ok out
  pub blank : blank_by (length out) out ≡ Ok true

-- a dataset's location is taken by as many bytes, which begin with its front
record IsChunk (d : Dataset) (a c : List ℕ) : Type 0 where
  pub len : length c ≡ d.len
  pub bytes : IsSpaced (take d.len a) c
  pub front : (more : List ℕ) (i : ℕ) → i < 5 → get_or (c ++ more) i 0 ≡ get_or a i 0
  pub again : (more : List ℕ) → chunk d (c ++ more) ≡ c
  pub value : (more : List ℕ) → cond d.location (all_spaces (take (d.len - 5) (drop 5 (c ++ more)))) true ≡ true

chunk_is : (d : Dataset) (a : List ℕ) → 5 ≤ d.len → d.len ≤ length a → IsChunk d a (chunk d a)
chunk_is d a f w = by_place d.location refl
  where
    spaces : List ℕ
    spaces = replicate (d.len - 5) 32

    by_place : (t : Bool) → d.location ≡ t → IsChunk d a (chunk d a)
    by_place false p =
        subst (λ t. IsChunk d a (cond t (take 5 a ++ spaces) (take d.len a))) (sym p)
        (let l : length (take d.len a) ≡ d.len = length-take-le d.len a w in
        record {
          len = l;
          bytes = spaced_same (take d.len a);
          front = λ more i h. index_front d.len i a more (omega arith) w;
          again = λ more. ap (λ t. cond t (take 5 (take d.len a ++ more) ++ spaces) (take d.len (take d.len a ++ more))) p
              ∙ take-append-le d.len (take d.len a) more (omega arith) ∙ ap (λ n. take n (take d.len a)) (sym l) ∙ take-length (take d.len a);
          value = λ more. ap (λ t. cond t (all_spaces (take (d.len - 5) (drop 5 (take d.len a ++ more)))) true) p;
        })
    by_place true p =
        subst (λ t. IsChunk d a (cond t (take 5 a ++ spaces) (take d.len a))) (sym p)
        (let five : length (take 5 a) ≡ 5 = length-take-le 5 a (omega arith) in
        let n : length spaces ≡ d.len - 5 = length-replicate (d.len - 5) 32 in
        let l : length (take 5 a ++ spaces) ≡ length (take 5 a) + length spaces = length-append (take 5 a) spaces in
        let s : 5 + (d.len - 5) ≡ d.len = omega arith in
        let q : length (drop 5 a) ≡ length a - 5 = length-drop 5 a in
        let split : take d.len a ≡ take 5 a ++ take (d.len - 5) (drop 5 a) = ap (λ k. take k a) (sym s) ∙ take-add 5 (d.len - 5) a in
        record {
          len = omega arith;
          bytes = subst (λ y. IsSpaced y (take 5 a ++ spaces)) (sym split)
              (spaced_both (take 5 a) (take 5 a) (take (d.len - 5) (drop 5 a)) spaces (spaced_same (take 5 a)) (spaced_blank (take (d.len - 5) (drop 5 a)) (d.len - 5) (length-take-le (d.len - 5) (drop 5 a) (omega arith))));
          front = λ more i h. ap (λ y. get_or y i 0) (append_assoc (take 5 a) spaces more) ∙ index_front 5 i a (spaces ++ more) h (omega arith);
          again = λ more. ap (λ t. cond t (take 5 ((take 5 a ++ spaces) ++ more) ++ spaces) (take d.len ((take 5 a ++ spaces) ++ more))) p
              ∙ ap (λ y. take 5 y ++ spaces) (append_assoc (take 5 a) spaces more)
              ∙ ap (λ y. y ++ spaces) (take-append-le 5 (take 5 a) (spaces ++ more) (omega arith) ∙ ap (λ k. take k (take 5 a)) (sym five) ∙ take-length (take 5 a));
          value = λ more. ap (λ t. cond t (all_spaces (take (d.len - 5) (drop 5 ((take 5 a ++ spaces) ++ more)))) true) p
              ∙ ap (λ y. all_spaces (take (d.len - 5) (drop 5 y))) (append_assoc (take 5 a) spaces more)
              ∙ ap (λ y. all_spaces (take (d.len - 5) y)) (drop_at (take 5 a) (spaces ++ more) 5 five)
              ∙ ap all_spaces (take-append-le (d.len - 5) spaces more (omega arith) ∙ ap (λ k. take k spaces) (sym n) ∙ take-length spaces)
              ∙ spaces_are (d.len - 5);
        })

behind_ok : (c : List ℕ) (r : Result (List ℕ) Fault) (out : List ℕ) → behind c r ≡ Ok out → (rest : List ℕ) × (r ≡ Ok rest) × (c ++ rest ≡ out)
behind_ok c (Ok rest) out e = (rest, refl, ok_same e)
behind_ok c (Err d) out e = absurd cc

after : (a rest : List ℕ) (d : Dataset) → 0 < length a → eqb (get_or a 0 0) 0 ≡ false → dataset_at a ≡ Ok d → Holds (drop d.len a) rest → Holds a (chunk d a ++ rest)
after a rest d h z e r =
    let s = sized a d e in
    let f : 5 ≤ d.len = s.0 in
    let w : d.len ≤ length a = s.1 in
    let c : List ℕ = chunk d a in
    let k = chunk_is d a f w in
    let out : List ℕ = c ++ rest in
    let lc : length c ≡ d.len = k.len in
    let lo : length out ≡ length c + length rest = length-append c rest in
    let lr : length rest ≡ length (drop d.len a) = r.len in
    let ld : length (drop d.len a) ≡ length a - d.len = length-drop d.len a in
    let l : length out ≡ length a = omega arith in
    let same : dataset_at out ≡ Ok d = same_dataset a out (sym l) (λ i g. k.front rest i g) ∙ e in
    let dr : drop d.len out ≡ rest = drop_at c rest d.len lc in
    let zo : eqb (get_or out 0 0) 0 ≡ false = ap (λ x. eqb x 0) (k.front rest 0 (omega arith)) ∙ z in
    let long : 0 < length out = omega arith in
    record {
      len = l;
      bytes = subst (λ y. IsSpaced y out) (take-append-drop d.len a) (spaced_both (take d.len a) c (drop d.len a) rest k.bytes r.bytes);
      again = erased_on (length out) out long (omega arith) zo
          ∙ ap (λ r. r >>= λ d. behind (chunk d out) (erased_by (length (drop d.len out)) (drop d.len out))) same
          ∙ ap (λ y. behind (chunk d out) (erased_by (length y) y)) dr
          ∙ ap (behind (chunk d out)) r.again
          ∙ ap (λ y. Ok (y ++ rest)) (k.again rest);
      blank = blank_on out rest d long zo same dr r.blank (k.value rest);
    }

zeros_hold : (b : ℕ) (bs : List ℕ) → eqb b 0 ≡ true → all_zero (b ∷ bs) ≡ true → Holds (b ∷ bs) (b ∷ bs)
unfolding blank_by
zeros_hold b bs z y = record {
  len = refl;
  bytes = spaced_same (b ∷ bs);
  again = erased_zeros (length (b ∷ bs)) (b ∷ bs) true (omega arith) (omega arith) z y;
  blank = ap (λ t. cond t (cond (all_zero (b ∷ bs)) (Ok true) (Err NoDataset)) (dataset_at (b ∷ bs) >>= λ d. (blank_by (length bs) (drop d.len (b ∷ bs)) >>= λ more. Ok (cond d.location (all_spaces (take (d.len - 5) (drop 5 (b ∷ bs)))) true && more)))) z
      ∙ ap (λ t. cond t (Ok true) (Err NoDataset)) y;
}

nothing : Holds [] []
unfolding erased_by blank_by
nothing = record { len = refl; bytes = tt; again = refl; blank = refl }

pub holds : (n : ℕ) (a out : List ℕ) → length a ≤ n → erased_by n a ≡ Ok out → Holds a out
unfolding erased_by
holds zero [] out l e = subst (Holds []) (ok_same e) nothing
holds (suc n) [] out l e = subst (Holds []) (ok_same e) nothing
holds zero (b ∷ bs) out l e = absurd (omega arith)
holds (suc n) (b ∷ bs) out l e =
    elim (chosen (eqb b 0) e) [
      | inl w ↦ elim (chosen (all_zero (b ∷ bs)) w.1) [
        | inl v ↦ subst (Holds (b ∷ bs)) (ok_same v.1) (zeros_hold b bs w.0 v.0)
        | inr v ↦ absurd (let u = v.1 in cc)
      ]
      | inr w ↦ (let o = bind_ok (dataset_at (b ∷ bs)) (λ d. behind (chunk d (b ∷ bs)) (erased_by n (drop d.len (b ∷ bs)))) out w.1 in
          let r = behind_ok (chunk o.0 (b ∷ bs)) (erased_by n (drop o.0.len (b ∷ bs))) out o.2 in
          subst (Holds (b ∷ bs)) r.2 (after (b ∷ bs) r.0 o.0 (omega arith) w.0 o.1 (holds n (drop o.0.len (b ∷ bs)) r.0 (shorter (b ∷ bs) o.0 n l o.1) r.1)))
    ]
