-- The value that an entry has, set again, changes no byte.
use Rattle.std.proofs.Common.{◌≡◌, ◌∙◌, ◌<◌, ◌≤◌, ◌+◌, ◌-◌, ◌==◌, ℕ, suc, true, false, Bool, List, [], ◌∷◌, ◌++◌, length, take, drop, inl, inr, ◌⊎◌, if◌then◌else◌, refl, sym, ap, arith, length-append, length-drop, append_assoc}
use Rattle.std.specs.Prelude.{slice_index}
use Rattle.std.specs.List.{flat_map, onto_first, slice_split}
use Rattle.std.proofs.lemmas.Bool.Decides.{nat_tests}
use Rattle.std.proofs.lemmas.List.{drop-drop, length-take-le, take-append-drop}
use Rattle.std.proofs.Math.Seq.{drop-cons, take-append_seam}
use Rattle.exif_base.specs.Bytes.{bytes_at, number_at}
use Rattle.exif_base.specs.Orders.{number_of}
use Rattle.exif_base.specs.declared.endian.Order.{Order}
use Rattle.exif_base.specs.declared.endian.Order.TheVariants.{Big, Little}
use Rattle.exif_types.specs.Texts.{ended, texts, without_empty_last}
use Rattle.exif_tiff.specs.Visits.{AreBytes}
use Rattle.exif_layout.specs.Encoding.{spelled}
use Rattle.exif_edit_base.specs.Patches.{put_at}

-- ---- numbers spelled again

two_bytes : (xs : List ℕ) (q : ℕ) → q + 2 ≤ length xs → bytes_at 2 xs q ≡ slice_index xs q ∷ slice_index xs (suc q) ∷ []
two_bytes xs q h =
    ap (take 2) (drop-cons xs q 0 (omega arith)) ∙ ap (λ (t : List ℕ). slice_index xs q ∷ take 1 t) (drop-cons xs (suc q) 0 (omega arith))

four_bytes : (xs : List ℕ) (q : ℕ) → q + 4 ≤ length xs
    → bytes_at 4 xs q ≡ slice_index xs q ∷ slice_index xs (suc q) ∷ slice_index xs (suc (suc q)) ∷ slice_index xs (suc (suc (suc q))) ∷ []
four_bytes xs q h =
    ap (take 4) (drop-cons xs q 0 (omega arith))
    ∙ (ap (λ (t : List ℕ). slice_index xs q ∷ take 3 t) (drop-cons xs (suc q) 0 (omega arith))
    ∙ (ap (λ (t : List ℕ). slice_index xs q ∷ slice_index xs (suc q) ∷ take 2 t) (drop-cons xs (suc (suc q)) 0 (omega arith))
    ∙ ap (λ (t : List ℕ). slice_index xs q ∷ slice_index xs (suc q) ∷ slice_index xs (suc (suc q)) ∷ take 1 t) (drop-cons xs (suc (suc (suc q))) 0 (omega arith))))

link : (a b : ℕ) (xs ys : List ℕ) → a ≡ b → xs ≡ ys → a ∷ xs ≡ b ∷ ys
link a b xs ys e f = cc

two_spelled : (order : Order) (a b : ℕ) (rest : List ℕ) → a < 256 → b < 256
    → spelled order 2 (number_of order 2 (a ∷ b ∷ rest)) ≡ a ∷ b ∷ []
two_spelled Big a b rest h k = link _ _ _ _ (omega (arith, h, k)) (link _ _ _ _ (omega (arith, h, k)) refl)
two_spelled Little a b rest h k = link _ _ _ _ (omega (arith, h, k)) (link _ _ _ _ (omega (arith, h, k)) refl)

four_spelled : (order : Order) (a b c d : ℕ) (rest : List ℕ) → a < 256 → b < 256 → c < 256 → d < 256
    → spelled order 4 (number_of order 4 (a ∷ b ∷ c ∷ d ∷ rest)) ≡ a ∷ b ∷ c ∷ d ∷ []
four_spelled Big a b c d rest h k l m =
    link _ _ _ _ (omega (arith, h, k, l, m)) (link _ _ _ _ (omega (arith, h, k, l, m)) (link _ _ _ _ (omega (arith, h, k, l, m)) (link _ _ _ _ (omega (arith, h, k, l, m)) refl)))
four_spelled Little a b c d rest h k l m =
    link _ _ _ _ (omega (arith, h, k, l, m)) (link _ _ _ _ (omega (arith, h, k, l, m)) (link _ _ _ _ (omega (arith, h, k, l, m)) (link _ _ _ _ (omega (arith, h, k, l, m)) refl)))

-- a number of bytes is spelled by them
pub two_again : (order : Order) (xs : List ℕ) (q : ℕ) → AreBytes xs → q + 2 ≤ length xs
    → spelled order 2 (number_at (number_of order) 2 xs q) ≡ bytes_at 2 xs q
two_again order xs q bytes h =
    let is : drop q xs ≡ slice_index xs q ∷ slice_index xs (suc q) ∷ drop (suc (suc q)) xs =
    drop-cons xs q 0 (omega arith) ∙ ap (λ (t : List ℕ). slice_index xs q ∷ t) (drop-cons xs (suc q) 0 (omega arith)) in
    ap (λ (t : List ℕ). spelled order 2 (number_of order 2 t)) is
    ∙ (two_spelled order (slice_index xs q) (slice_index xs (suc q)) (drop (suc (suc q)) xs) (bytes q) (bytes (suc q)) ∙ sym (two_bytes xs q h))

pub four_again : (order : Order) (xs : List ℕ) (q : ℕ) → AreBytes xs → q + 4 ≤ length xs
    → spelled order 4 (number_at (number_of order) 4 xs q) ≡ bytes_at 4 xs q
four_again order xs q bytes h =
    let x = slice_index xs q in
    let y = slice_index xs (suc q) in
    let z = slice_index xs (suc (suc q)) in
    let w = slice_index xs (suc (suc (suc q))) in
    let rest = drop (suc (suc (suc (suc q)))) xs in
    let is : drop q xs ≡ x ∷ y ∷ z ∷ w ∷ rest =
    drop-cons xs q 0 (omega arith) ∙ (ap (λ (t : List ℕ). x ∷ t) (drop-cons xs (suc q) 0 (omega arith))
    ∙ (ap (λ (t : List ℕ). x ∷ y ∷ t) (drop-cons xs (suc (suc q)) 0 (omega arith))
    ∙ ap (λ (t : List ℕ). x ∷ y ∷ z ∷ t) (drop-cons xs (suc (suc (suc q))) 0 (omega arith)))) in
    ap (λ (t : List ℕ). spelled order 4 (number_of order 4 t)) is
    ∙ (four_spelled order x y z w rest (bytes q) (bytes (suc q)) (bytes (suc (suc q))) (bytes (suc (suc (suc q)))) ∙ sym (four_bytes xs q h))

-- ---- bytes put where they are

pub put_same : (o n : ℕ) (xs : List ℕ) → o + n ≤ length xs → put_at o (bytes_at n xs o) xs ≡ xs
put_same o n xs h =
    let rest : length (drop o xs) ≡ length xs - o = length-drop o xs in
    let len : length (bytes_at n xs o) ≡ n = length-take-le n (drop o xs) (omega (arith, rest)) in
    ap (λ (k : ℕ). take o xs ++ (bytes_at n xs o ++ drop (o + k) xs)) len
    ∙ (ap (λ (ys : List ℕ). take o xs ++ (bytes_at n xs o ++ ys)) (sym (drop-drop n o xs))
    ∙ (ap (λ (ys : List ℕ). take o xs ++ ys) (take-append-drop n (drop o xs)) ∙ take-append-drop o xs))

-- ---- texts written again

-- the texts of bytes, each with a zero byte, are the bytes and one more
parts_ended : (xs : List ℕ) → flat_map ended (slice_split (λ b. b == 0) xs) ≡ xs ++ 0 ∷ []
parts_ended [] = refl
parts_ended (x ∷ xs) = by_test (x == 0) refl (slice_split (λ b. b == 0) xs) (parts_ended xs)
  where
    none_some : (ys : List ℕ) → [] ≡ ys ++ 0 ∷ [] → ⊥
    none_some [] e = cc
    none_some (y ∷ ys) e = cc

    onto : (parts : List (List ℕ)) → flat_map ended parts ≡ xs ++ 0 ∷ [] → flat_map ended (onto_first x parts) ≡ x ∷ (xs ++ 0 ∷ [])
    onto [] e = absurd (none_some xs e)
    onto (part ∷ parts) e = ap (λ (t : List ℕ). x ∷ t) e

    by_test : (b : Bool) → (x == 0) ≡ b → (parts : List (List ℕ)) → flat_map ended parts ≡ xs ++ 0 ∷ []
        → flat_map ended (if b then [] ∷ parts else onto_first x parts) ≡ x ∷ (xs ++ 0 ∷ [])
    by_test true t parts e =
        let zero' : 0 ≡ x = grind (arith, nat_tests, t) in
        link 0 x (flat_map ended parts) (xs ++ 0 ∷ []) zero' e
    by_test false t parts e = onto parts e

-- without an empty last text they are the same, or one zero byte less
last_ended : (ts : List (List ℕ)) → (flat_map ended (without_empty_last ts) ≡ flat_map ended ts) ⊎ (flat_map ended (without_empty_last ts) ++ 0 ∷ [] ≡ flat_map ended ts)
last_ended [] = inl refl
last_ended (t ∷ []) = by_test (length t == 0) refl
  where
    none : (xs : List ℕ) → length xs ≡ 0 → xs ≡ []
    none [] e = refl
    none (x ∷ xs) e = absurd (omega (arith, e))

    by_test : (b : Bool) → (length t == 0) ≡ b
        → (flat_map ended (if b then [] else t ∷ []) ≡ flat_map ended (t ∷ [])) ⊎ (flat_map ended (if b then [] else t ∷ []) ++ 0 ∷ [] ≡ flat_map ended (t ∷ []))
    by_test true e = let empty : length t ≡ 0 = grind (arith, nat_tests, e) in inr (ap (λ (xs : List ℕ). flat_map ended (xs ∷ [])) (sym (none t empty)))
    by_test false e = inl refl
last_ended (t ∷ n ∷ ts) = elim (last_ended (n ∷ ts)) [
  | inl e ↦ inl (ap (λ (xs : List ℕ). ended t ++ xs) e)
  | inr e ↦ inr (append_assoc (ended t) (flat_map ended (without_empty_last (n ∷ ts))) (0 ∷ []) ∙ ap (λ (xs : List ℕ). ended t ++ xs) e)
]

-- bytes whose texts take no more bytes with their zero bytes are these texts
pub texts_again : (xs : List ℕ) → length (flat_map ended (texts xs)) ≤ length xs → flat_map ended (texts xs) ≡ xs
texts_again xs few = elim (last_ended (slice_split (λ b. b == 0) xs)) [
  | inl e ↦ absurd (longer (e ∙ parts_ended xs))
  | inr e ↦ same (e ∙ parts_ended xs)
]
  where
    longer : flat_map ended (texts xs) ≡ xs ++ 0 ∷ [] → ⊥
    longer e =
        let l : length (flat_map ended (texts xs)) ≡ length (xs ++ 0 ∷ []) = ap (λ (ys : List ℕ). length ys) e in
        let m = length-append xs (0 ∷ []) in
        omega (arith, few, l, m)

    same : flat_map ended (texts xs) ++ 0 ∷ [] ≡ xs ++ 0 ∷ [] → flat_map ended (texts xs) ≡ xs
    same e =
        let l : length (flat_map ended (texts xs) ++ 0 ∷ []) ≡ length (xs ++ 0 ∷ []) = ap (λ (ys : List ℕ). length ys) e in
        let m = length-append xs (0 ∷ []) in
        let k = length-append (flat_map ended (texts xs)) (0 ∷ []) in
        let n : length (flat_map ended (texts xs)) ≡ length xs = omega (arith, l, m, k) in
        sym (take-append_seam (flat_map ended (texts xs)) (0 ∷ []))
        ∙ (ap (take (length (flat_map ended (texts xs)))) e ∙ (ap (λ (i : ℕ). take i (xs ++ 0 ∷ [])) n ∙ take-append_seam xs (0 ∷ [])))
