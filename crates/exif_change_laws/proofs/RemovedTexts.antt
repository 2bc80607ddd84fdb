-- Where reading looks at no byte as two things, directories without entries are where they were.
use Rattle.std.proofs.Common.{◌≡◌, ◌≢◌, ◌≤◌, ◌<◌, ◌+◌, ◌-◌, ◌==◌, ℕ, Bool, true, false, if◌then◌else◌, List, [], ◌∷◌, length, get_or, drop, All, refl, sym, ap, subst, ◌∙◌, arith}
use Rattle.std.specs.Prelude.{◌||◌, nat_le}
use Rattle.std.specs.List.{flat_map, AllByRecursion}
use Rattle.std.proofs.lemmas.Bool.Decides.{nat_tests}
use Rattle.std.proofs.lemmas.List.{ext_get_or, get_or-drop, get_or-take, length-drop, length-take-le}
use Rattle.exif_base.specs.Bytes.{Reading, bytes_at}
use Rattle.exif_base.specs.Orders.{number_of}
use Rattle.exif_base.specs.declared.endian.Order.{Order}
use Rattle.exif_tiff.specs.Footprint.{Stretch, directory_stretch, looked_at, value_stretch}
use Rattle.exif_tiff.specs.Trace.{entry_offsets}
use Rattle.exif_tiff.proofs.ApartLists.{AreApart, EachApart, IsApart}
use Rattle.exif_layout.specs.Layout.{Stands}
use Rattle.exif_edit_base.specs.Patches.{FitsIn, patched}
use Rattle.exif_edit_base.specs.declared.patch.Patch.{Patch}
use Rattle.exif_edit_base.proofs.PatchSteps.{fit_in, length-patched, patched_outside, put_on}
use Rattle.exif_edit.specs.Removing.{directory_patches, directory_without, entries_with, has_tag}
use Rattle.exif_edit.proofs.RemoveSound.{directory_fits, directory_misses, patched-append, removed_at}
use Rattle.exif_edit.proofs.RemoveSteps.{directory_length}
use Rattle.exif_change_laws.proofs.RemovedBytes.{IsIn, as_long, made, named_missed, other, outside_directory}
use Rattle.exif_change_laws.proofs.RemovedLists.{all_members, each_flat, filter_all, has, member_all, piece, pieces}

one_of : (x y : Bool) (u v : ℕ) → (if y then u else (if x then u else v)) ≡ (if (x || y) then u else v)
one_of true true u v = refl
one_of true false u v = refl
one_of false true u v = refl
one_of false false u v = refl

module _ (order : Order) (a : List ℕ) (n : ℕ) (ps ds : List ℕ)
    (apart : AreApart (flat_map (looked_at (number_of order) a) ds))
    (known : AllByRecursion (λ q. has ds q ≡ true) ps) (p : ℕ) (m : has ds p ≡ true)
    (fits : p + length (directory_without order a n p) ≤ length a) where
  abbrev number : Reading
  number = number_of order

  abbrev encoded : List ℕ
  encoded = directory_without order a n p

  abbrev here : Stretch
  here = directory_stretch number a p

  is_here : (i : ℕ) → i < length encoded → IsIn (p + i) here
  is_here i low =
      let l = directory_length order a n p in (omega arith, omega arith)

  -- ---- the directories, one after another

  own_put : (i : ℕ) → i < length encoded → (bytes : List ℕ) → length bytes ≡ length a
      → get_or (patched (directory_patches order a n p) bytes) (p + i) 0 ≡ get_or encoded i 0
  own_put i low bytes l = by_fit (nat_le (p + length encoded) (length a)) refl
    where
      patch : Patch
      patch = record { offset = p; bytes = encoded }

      by_fit : (b : Bool) → nat_le (p + length encoded) (length a) ≡ b
          → get_or (patched (if b then patch ∷ [] else []) bytes) (p + i) 0 ≡ get_or encoded i 0
      by_fit true e =
          let s : p + i - p ≡ i = omega arith in
          put_on p encoded bytes (p + i) (omega (arith, l)) (omega arith) (omega arith)
          ∙ ap (λ j. get_or encoded j 0) s
      by_fit false e = absurd (grind (arith, nat_tests))

  other_put : (i q : ℕ) → i < length encoded → has ds q ≡ true → p ≢ q → (bytes : List ℕ)
      → length bytes ≡ length a
      → get_or (patched (directory_patches order a n q) bytes) (p + i) 0 ≡ get_or bytes (p + i) 0
  other_put i q low k ne bytes l =
      patched_outside (directory_patches order a n q) bytes (p + i)
      (fit_in (length a) (length bytes) (directory_patches order a n q) (sym l) (directory_fits order a n q))
      (directory_misses order a n q (p + i)
      (outside_directory number a q (p + i) here (is_here i low)
      (pieces (looked_at number a) ds p q apart m k ne).0.0))

  one_put : (i q : ℕ) → i < length encoded → has ds q ≡ true → (bytes : List ℕ)
      → length bytes ≡ length a
      → get_or (patched (directory_patches order a n q) bytes) (p + i) 0
      ≡ (if q == p then get_or encoded i 0 else get_or bytes (p + i) 0)
  one_put i q low k bytes l = by_test (q == p) refl
    where
      by_test : (t : Bool) → (q == p) ≡ t
          → get_or (patched (directory_patches order a n q) bytes) (p + i) 0
          ≡ (if t then get_or encoded i 0 else get_or bytes (p + i) 0)
      by_test true e =
          let same : p ≡ q = grind (arith, nat_tests) in
          subst (λ x. get_or (patched (directory_patches order a n x) bytes) (p + i) 0 ≡ get_or encoded i 0)
          same (own_put i low bytes l)
      by_test false e = other_put i q low k (unlike e) bytes l
        where
          unlike : (q == p) ≡ false → p ≢ q
          unlike e same = absurd (grind (arith, nat_tests))

  all_put : (i : ℕ) → i < length encoded → (qs : List ℕ) → AllByRecursion (λ q. has ds q ≡ true) qs
      → (bytes : List ℕ) → length bytes ≡ length a
      → get_or (patched (flat_map (directory_patches order a n) qs) bytes) (p + i) 0
      ≡ (if has qs p then get_or encoded i 0 else get_or bytes (p + i) 0)
  all_put i low [] h bytes l = refl
  all_put i low (q ∷ qs) h bytes l =
      let next = patched (directory_patches order a n q) bytes in
      let fit : All (FitsIn (length bytes)) (directory_patches order a n q) =
      fit_in (length a) (length bytes) (directory_patches order a n q) (sym l) (directory_fits order a n q) in
      let len : length next ≡ length a = length-patched (directory_patches order a n q) bytes fit ∙ l in
      ap (λ xs. get_or xs (p + i) 0)
      (patched-append (directory_patches order a n q) (flat_map (directory_patches order a n) qs) bytes)
      ∙ (all_put i low qs h.1 next len
      ∙ (ap (λ x. if has qs p then get_or encoded i 0 else x) (one_put i q low h.0 bytes l)
      ∙ one_of (q == p) (has qs p) (get_or encoded i 0) (get_or bytes (p + i) 0)))

  -- ---- the values behind them

  values_apart : (q : ℕ) → has ds q ≡ true
      → EachApart (here ∷ []) (flat_map (value_stretch number a) (entries_with number a n q))
  values_apart q k = by_test (p == q) refl
    where
      by_test : (t : Bool) → (p == q) ≡ t
          → EachApart (here ∷ []) (flat_map (value_stretch number a) (entries_with number a n q))
      by_test true e =
          let same : p ≡ q = grind (arith, nat_tests) in
          subst (λ x. EachApart (here ∷ []) (flat_map (value_stretch number a) (entries_with number a n x)))
          same (
            filter_all (IsApart here) (value_stretch number a) (has_tag number a n) (entry_offsets number a p)
                (piece (looked_at number a) ds p apart m).0,
            tt,
          )
      by_test false e = ((other order a n ps ds apart known p q m k (unlike e)).0.1, tt)
        where
          unlike : (p == q) ≡ false → p ≢ q
          unlike e same = absurd (grind (arith, nat_tests))

  encoded_at : has ps p ≡ true → (i : ℕ) → i < length encoded
      → get_or (made order a n ps) (p + i) 0 ≡ get_or encoded i 0
  encoded_at mine i low =
      let far = each_flat (here ∷ []) (λ q. flat_map (value_stretch number a) (entries_with number a n q)) ps
      (all_members
      (λ q. EachApart (here ∷ []) (flat_map (value_stretch number a) (entries_with number a n q))) ps
      (λ q l. values_apart q (member_all (λ x. has ds x ≡ true) ps q known l))) in
      let front = patched (flat_map (directory_patches order a n) ps) a in
      removed_at order a n ps (p + i)
      ∙ (ap (λ x. if x then 0 else get_or front (p + i) 0)
      (named_missed number a n (p + i) here (is_here i low) ps far.0)
      ∙ (all_put i low ps known a refl
      ∙ ap (λ x. if x then get_or encoded i 0 else get_or a (p + i) 0) mine))

  -- a changed directory is where it was, without its entries of the tag, if that fits
  pub encoded_is_there : has ps p ≡ true → Stands (made order a n ps) p encoded
  encoded_is_there mine =
      let b = made order a n ps in
      let same = as_long order a n ps in
      let long : length (bytes_at (length encoded) b p) ≡ length encoded =
      length-take-le (length encoded) (drop p b) (omega (arith, same, length-drop p b)) in
      record {
        within = omega (arith, same);
        there = ext_get_or 0 (bytes_at (length encoded) b p) encoded long
            (λ i low. get_or-take (length encoded) (drop p b) i 0 (omega (arith, long))
            ∙ (get_or-drop p b i 0 ∙ encoded_at mine i (omega (arith, long))));
      }
