-- What reading looks at but for one entry, with what it looks at of that entry, is all that it looks
-- at: where it looks at each byte once, these are apart.
use Rattle.std.proofs.Common.{◌≡◌, ◌≤◌, ◌<◌, ◌+◌, ◌*◌, ◌==◌, ℕ, zero, suc, Bool, true, false, if◌then◌else◌, List, [], ◌∷◌, ◌++◌, length, refl, ap, ◌∙◌, arith}
use Rattle.std.specs.Prelude.{◌&&◌, ◌||◌, nat_le, nat_lt}
use Rattle.std.specs.List.{AllByRecursion, flat_map, list_any}
use Rattle.std.proofs.lemmas.Bool.Decides.{nat_tests}
use Rattle.exif_base.specs.Bytes.{Reading, number_at, spaced}
use Rattle.exif_text.specs.FieldTypes.{type_of, known_length}
use Rattle.exif_tiff.specs.Apart.{are_apart}
use Rattle.exif_tiff.specs.Footprint.{Stretch, chain_directories, looked_at, ordered_footprint, value_stretch}
use Rattle.exif_tiff.specs.Trace.{entry_offsets, whole_entries}
use Rattle.exif_tiff.proofs.ApartLists.{IsApart}
use Rattle.exif_tiff.proofs.Members.{all_append}
use Rattle.exif_edit_base.specs.declared.patch.Span.{Span}
use Rattle.exif_edit.specs.Sharing.{all_beside, beside, overlaps, other_entry}
use Rattle.exif_change_laws.proofs.ApartCounts.{HaveBytes, Lacks, all_apart, apart_holders, apart_misses, apart_of, has, has_inside, has_parts, holders, holders-append, holders_more, holders_none}

-- ---- a number for each time that an entry is among some

-- the number n, added up for each time that e is among some entries
pub times : ℕ → ℕ → List ℕ → ℕ
times n e [] = 0
times n e (d ∷ ds) = (if d == e then n else 0) + times n e ds

-- among no entries nothing is added
pub times_none : (n e : ℕ) → times n e [] ≡ 0
unfolding times
times_none n e = refl

-- one more entry adds the number if it is the one, else nothing
pub times_more : (n e d : ℕ) (ds : List ℕ)
    → times n e (d ∷ ds) ≡ (if d == e then n else 0) + times n e ds
unfolding times
times_more n e d ds = refl

-- one more entry that is the one adds the number
pub times_there : (n e d : ℕ) (ds : List ℕ) → (d == e) ≡ true
    → times n e (d ∷ ds) ≡ n + times n e ds
times_there n e d ds h = times_more n e d ds ∙ ap (λ t. (if t then n else 0) + times n e ds) h

-- one more entry that is another one adds nothing
pub times_else : (n e d : ℕ) (ds : List ℕ) → (d == e) ≡ false
    → times n e (d ∷ ds) ≡ times n e ds
times_else n e d ds h =
    let a = times_more n e d ds ∙ ap (λ t. (if t then n else 0) + times n e ds) h in
    omega arith

-- the sum over two joined lists is that over the first and that over the second
pub times-append : (n e : ℕ) (ds es : List ℕ) → times n e (ds ++ es) ≡ times n e ds + times n e es
times-append n e [] es = omega (arith, times_none n e)
times-append n e (d ∷ ds) es =
    let rest = times-append n e ds es in
    let more = times_more n e d (ds ++ es) in
    let here = times_more n e d ds in
    let one : ℕ = if d == e then n else 0 in
    by_parts one rest more here
  where
    by_parts : (one : ℕ) → times n e (ds ++ es) ≡ times n e ds + times n e es
        → times n e (d ∷ ds ++ es) ≡ one + times n e (ds ++ es)
        → times n e (d ∷ ds) ≡ one + times n e ds
        → times n e (d ∷ ds ++ es) ≡ times n e (d ∷ ds) + times n e es
    by_parts one rest more here = omega arith

-- as often as it is there, by one
times_grow : (n e : ℕ) (ds : List ℕ) → 1 ≤ n → times 1 e ds ≤ times n e ds
times_grow n e [] h = omega (arith, times_none 1 e, times_none n e)
times_grow n e (d ∷ ds) h = by_test (d == e) refl (times_grow n e ds h)
  where
    by_test : (t : Bool) → (d == e) ≡ t → times 1 e ds ≤ times n e ds
        → times 1 e (d ∷ ds) ≤ times n e (d ∷ ds)
    by_test true t rest =
        let a = times_there 1 e d ds t in
        let b = times_there n e d ds t in
        omega arith
    by_test false t rest =
        let a = times_else 1 e d ds t in
        let b = times_else n e d ds t in
        omega arith

-- the number itself, where it is there
times_once : (n e : ℕ) (ds : List ℕ) → 0 < times 1 e ds → n ≤ times n e ds
times_once n e [] h = let none = times_none 1 e in absurd (omega arith)
times_once n e (d ∷ ds) h = by_test (d == e) refl (times_once n e ds)
  where
    by_test : (t : Bool) → (d == e) ≡ t → (0 < times 1 e ds → n ≤ times n e ds)
        → n ≤ times n e (d ∷ ds)
    by_test true t rest = let b = times_there n e d ds t in omega arith
    by_test false t rest =
        let a = times_else 1 e d ds t in
        let b = times_else n e d ds t in
        let more = rest (omega arith) in
        omega arith

-- ---- all that is looked at has bytes

module _ (number : Reading) (bytes : List ℕ) where
  value_has : (d : ℕ) → HaveBytes (value_stretch number bytes d)
  value_has d =
      by_tests (nat_lt 4 size) (nat_le (offset + size) (length bytes)) refl
    where
      size : ℕ
      size = known_length (type_of (number_at number 2 bytes (d + 2))) * number_at number 4 bytes (d + 4)

      offset : ℕ
      offset = number_at number 4 bytes (d + 8)

      by_tests : (a b : Bool) → nat_lt 4 size ≡ a
          → HaveBytes (if a && b then record { offset = offset; len = size } ∷ [] else [])
      by_tests false b p = tt
      by_tests true false p = tt
      by_tests true true p = (grind (arith, nat_tests), tt)

  -- all stretches that some offsets give have bytes, where those of each offset do
  pub all_have : (f : ℕ → List Stretch) (ds : List ℕ) → ((d : ℕ) → HaveBytes (f d))
      → HaveBytes (flat_map f ds)
  all_have f [] h = tt
  all_have f (d ∷ ds) h =
      all_append (λ (t : Stretch). 0 < t.len) (f d) (flat_map f ds) (h d) (all_have f ds h)

  -- the directory at p and its values that are looked at have bytes
  pub looked_has : (p : ℕ) → HaveBytes (looked_at number bytes p)
  looked_has p =
      (omega arith, all_have (value_stretch number bytes) (entry_offsets number bytes p) value_has)

  other_has : (e d : ℕ) → HaveBytes (other_entry number bytes e d)
  other_has e d = by_test (d == e)
    where
      by_test : (t : Bool) → HaveBytes
          (if t then [] else record { offset = d; len = 12 } ∷ value_stretch number bytes d)
      by_test true = tt
      by_test false = (omega arith, value_has d)

  beside_has : (e p : ℕ) → HaveBytes (beside number bytes e p)
  beside_has e p = (
    omega arith,
    (
      omega arith,
      all_have (other_entry number bytes e) (entry_offsets number bytes p) (other_has e),
    ),
  )

  all_beside_has : (e : ℕ) → HaveBytes (all_beside number bytes e)
  all_beside_has e = (
    omega arith,
    all_have (beside number bytes e)
        (chain_directories 8 number bytes (number_at number 4 bytes 4)) (beside_has e),
  )

  -- ---- counted byte by byte

  -- what is looked at of the entry at d
  abbrev pub whole : ℕ → List Stretch
  whole d = record { offset = d; len = 12 } ∷ value_stretch number bytes d

  -- how many of it have the byte at i
  abbrev pub own : ℕ → ℕ → ℕ
  own i d = holders i (whole d)

  entry_held : (i e d : ℕ)
      → holders i (other_entry number bytes e d) + times (own i e) e (d ∷ []) ≡ own i d
  entry_held i e d = by_test (d == e) refl
    where
      by_test : (t : Bool) → (d == e) ≡ t
          → holders i (if t then [] else whole d) + times (own i e) e (d ∷ []) ≡ own i d
      by_test true t =
          let same : d ≡ e = grind (arith, nat_tests) in
          let a = times_there (own i e) e d [] t in
          let b = times_none (own i e) e in
          let c = holders_none i in
          let f : own i d ≡ own i e = ap (own i) same in
          omega arith
      by_test false t =
          let a = times_else (own i e) e d [] t in
          let b = times_none (own i e) e in
          omega arith

  entries_held : (i e : ℕ) (ds : List ℕ)
      → holders i (flat_map (other_entry number bytes e) ds) + times (own i e) e ds
      ≡ holders i (flat_map whole ds)
  entries_held i e [] = let a = times_none (own i e) e in omega arith
  entries_held i e (d ∷ ds) =
      let one = entry_held i e d in
      let rest = entries_held i e ds in
      let a = holders-append i (other_entry number bytes e d)
      (flat_map (other_entry number bytes e) ds) in
      let b = holders-append i (whole d) (flat_map whole ds) in
      let c = times-append (own i e) e (d ∷ []) ds in
      omega arith

  -- entries side by side
  spaced_held : (i q n : ℕ)
      → holders i (flat_map whole (spaced q 12 n))
      ≡ has i (record { offset = q; len = 12 * n })
      + holders i (flat_map (value_stretch number bytes) (spaced q 12 n))
  spaced_held i q zero =
      let none = no_bytes i q in
      let a = holders_none i in
      omega arith
    where
      no_bytes : (i q : ℕ) → has i (record { offset = q; len = 12 * 0 }) ≡ 0
      no_bytes i q =
          let a = has_parts i q 0 0 in
          let b : has i (record { offset = q + 0; len = 0 }) ≡ has i (record { offset = q; len = 0 }) =
          ap (λ p. has i (record { offset = p; len = 0 })) (omega arith) in
          omega arith
  spaced_held i q (suc n) =
      let rest = spaced_held i (q + 12) n in
      let len : 12 * suc n ≡ 12 + 12 * n = omega arith in
      let both = ap (λ m. has i (record { offset = q; len = m })) len ∙ has_parts i q 12 (12 * n) in
      let a = holders-append i (whole q) (flat_map whole (spaced (q + 12) 12 n)) in
      let b = holders-append i (value_stretch number bytes q)
      (flat_map (value_stretch number bytes) (spaced (q + 12) 12 n)) in
      let c = holders_more i (record { offset = q; len = 12 }) (value_stretch number bytes q) in
      omega arith

  -- a directory
  directory_held : (i e p : ℕ)
      → holders i (beside number bytes e p) + times (own i e) e (entry_offsets number bytes p)
      ≡ holders i (looked_at number bytes p)
  directory_held i e p =
      let w = whole_entries number bytes p in
      let others = flat_map (other_entry number bytes e) (entry_offsets number bytes p) in
      let next : Stretch = record { offset = p + 2 + 12 * w; len = 4 } in
      let a = entries_held i e (entry_offsets number bytes p) in
      let b = spaced_held i (p + 2) w in
      let c = has_parts i p (2 + 12 * w) 4 in
      let d = has_parts i p 2 (12 * w) in
      let here : has i (record { offset = p + (2 + 12 * w); len = 4 }) ≡ has i next =
      ap (λ q. has i (record { offset = q; len = 4 })) (omega arith) in
      let f = holders_more i (record { offset = p; len = 2 }) (next ∷ others) in
      let g = holders_more i next others in
      let h = holders_more i (record { offset = p; len = 2 + 12 * w + 4 })
      (flat_map (value_stretch number bytes) (entry_offsets number bytes p)) in
      omega arith

  directories_held : (i e : ℕ) (ps : List ℕ)
      → holders i (flat_map (beside number bytes e) ps)
      + times (own i e) e (flat_map (entry_offsets number bytes) ps)
      ≡ holders i (flat_map (looked_at number bytes) ps)
  directories_held i e [] = let a = times_none (own i e) e in omega arith
  directories_held i e (p ∷ ps) =
      let one = directory_held i e p in
      let rest = directories_held i e ps in
      let a = holders-append i (beside number bytes e p) (flat_map (beside number bytes e) ps) in
      let b = holders-append i (looked_at number bytes p) (flat_map (looked_at number bytes) ps) in
      let c = times-append (own i e) e (entry_offsets number bytes p)
      (flat_map (entry_offsets number bytes) ps) in
      omega arith

  -- all of the data
  abbrev pub all_entries : List ℕ
  all_entries =
      flat_map (entry_offsets number bytes)
      (chain_directories 8 number bytes (number_at number 4 bytes 4))

  -- all that reading looks at: the header, and the directories with their values
  abbrev pub all_looked : List Stretch
  all_looked = record { offset = 0; len = 8 } ∷ ordered_footprint number bytes

  all_held : (i e : ℕ)
      → holders i (all_beside number bytes e) + times (own i e) e all_entries ≡ holders i all_looked
  all_held i e =
      let ps = chain_directories 8 number bytes (number_at number 4 bytes 4) in
      let a = directories_held i e ps in
      let b = holders_more i (record { offset = 0; len = 8 }) (flat_map (beside number bytes e) ps) in
      let c = holders_more i (record { offset = 0; len = 8 }) (ordered_footprint number bytes) in
      omega arith

  -- ---- an entry, where no byte is looked at twice

  module _ (e : ℕ) (apart : are_apart all_looked ≡ true) where
    own_some : 1 ≤ own e e
    own_some =
        let a = holders_more e (record { offset = e; len = 12 }) (value_stretch number bytes e) in
        let b = has_inside e (record { offset = e; len = 12 }) (omega arith) (omega arith) in
        omega arith

    -- it is there once
    pub once : times 1 e all_entries ≤ 1
    once =
        let a = all_held e e in
        let b = apart_holders e all_looked apart in
        let c = times_grow (own e e) e all_entries own_some in
        omega arith

    module _ (there : 0 < times 1 e all_entries) where
      lone : (i : ℕ) → holders i (all_beside number bytes e) + own i e ≤ 1
      lone i =
          let a = all_held i e in
          let b = apart_holders i all_looked apart in
          let c = times_once (own i e) e all_entries there in
          omega arith

      abbrev itself : Stretch
      itself = record { offset = e; len = 12 }

      own_parts : (i : ℕ) → own i e ≡ has i itself + holders i (value_stretch number bytes e)
      own_parts i = holders_more i itself (value_stretch number bytes e)

      entry_lacks : Lacks (record { offset = e + 2; len = 10 }) (all_beside number bytes e)
      entry_lacks i low high =
          let a = lone i in
          let b = own_parts i in
          let c = has_inside i itself (omega arith) (omega arith) in
          omega arith

      -- what a new value changes of an entry is apart from all that is looked at but for the entry
      pub entry_apart :
          AllByRecursion (IsApart (record { offset = e + 2; len = 10 })) (all_beside number bytes e)
      entry_apart =
          all_apart (record { offset = e + 2; len = 10 }) (all_beside number bytes e) (omega arith)
          (all_beside_has e) entry_lacks

      -- its value, where that is outside of it
      module _ (space : Stretch) (some : 0 < space.len)
          (is : value_stretch number bytes e ≡ space ∷ []) where
        space_has : (i : ℕ) → space.offset ≤ i → i < space.offset + space.len
            → holders i (value_stretch number bytes e) ≡ 1
        space_has i low high =
            let a = ap (holders i) is in
            let b = holders_more i space [] in
            let c = holders_none i in
            let d = has_inside i space low high in
            omega arith

        space_lacks : Lacks space (all_beside number bytes e)
        space_lacks i low high =
            let a = lone i in
            let b = own_parts i in
            let c = space_has i low high in
            omega arith

        -- its value, outside of it, is apart from all that is looked at but for the entry
        pub space_apart : AllByRecursion (IsApart space) (all_beside number bytes e)
        space_apart = all_apart space (all_beside number bytes e) some (all_beside_has e) space_lacks

        -- its value, outside of it, is apart from the entry itself
        pub space_beside : IsApart space itself
        space_beside =
            apart_of space itself some (omega arith)
            (λ i low high. none i (lone i) (own_parts i) (space_has i low high))
          where
            none : (i : ℕ) → holders i (all_beside number bytes e) + own i e ≤ 1
                → own i e ≡ has i itself + holders i (value_stretch number bytes e)
                → holders i (value_stretch number bytes e) ≡ 1 → has i itself ≡ 0
            none i a b c = omega arith

-- ---- the tests

-- a span that overlaps none of some
pub none_met : (s : Span) (ts : List Stretch)
    → AllByRecursion (IsApart (record { offset = s.offset; len = s.len })) ts
    → list_any (overlaps s) ts ≡ false
none_met s [] h = refl
none_met s (t ∷ ts) h = rw (apart_misses s t h.0, none_met s ts h.1) refl

-- tests that fail one by one fail together
pub neither_any : {X : Type 0} (S T : X → Bool) (xs : List X) → list_any S xs ≡ false
    → list_any T xs ≡ false → list_any (λ x. S x || T x) xs ≡ false
neither_any S T [] h k = refl
neither_any S T (x ∷ xs) h k =
    by_tests (S x) (T x) (list_any S xs) (list_any T xs) h k (neither_any S T xs)
  where
    by_tests : (a b : Bool) (c d : Bool) → (a || c) ≡ false → (b || d) ≡ false
        → (c ≡ false → d ≡ false → list_any (λ x. S x || T x) xs ≡ false)
        → ((a || b) || list_any (λ x. S x || T x) xs) ≡ false
    by_tests false false c d h k r = r h k
    by_tests true b c d h k r = cc
    by_tests false true c d h k r = cc

-- no span of nothing at 0 overlaps anything
pub nothing_met : (t : Stretch) → overlaps (record { offset = 0; len = 0 }) t ≡ false
nothing_met t = let a : nat_lt t.offset 0 ≡ false = grind (arith, nat_tests) in rw a refl
