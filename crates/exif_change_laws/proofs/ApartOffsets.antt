-- What reading looks at of GPS directories is apart from what it looks at of all others, where
-- it looks at no byte as two things.
use Rattle.std.proofs.Common.{◌≡◌, ◌≤◌, ◌<◌, ◌+◌, ◌-◌, ◌*◌, min, ℕ, Bool, true, false, if◌then◌else◌, List, [], ◌∷◌, ◌++◌, length, map, inl, inr, Ok, refl, ap, ◌∙◌, arith}
use Rattle.std.specs.Prelude.{◌&&◌, nat_le, nat_lt, not}
use Rattle.std.specs.List.{flat_map, list_any}
use Rattle.std.proofs.lemmas.Bool.Decides.{nat_tests}
use Rattle.std.proofs.lemmas.List.Folds.{list_any-append}
use Rattle.exif_base.specs.Bytes.{Reading, number_at}
use Rattle.exif_base.specs.Orders.{number_of}
use Rattle.exif_base.specs.declared.endian.Order.{Order}
use Rattle.exif_text.specs.FieldTypes.{type_of, known_length}
use Rattle.exif_table.specs.declared.context.Context.{Context}
use Rattle.exif_table.specs.declared.context.Context.TheVariants.{Tiff, Exif, Gps, Interop}
use Rattle.exif_tiff.specs.declared.offset.DirectoryOffset.{DirectoryOffset}
use Rattle.exif_tiff.specs.Apart.{are_apart}
use Rattle.exif_tiff.specs.Footprint.{Stretch, chain_directories, directory_stretch, looked_at, value_stretch}
use Rattle.exif_tiff.specs.Trace.{entry_of, entry_offsets, header, whole_entries}
use Rattle.exif_tiff.proofs.ApartLists.{IsApart}
use Rattle.exif_edit_base.specs.Locations.{directory_offsets, gps_of, visited_gps, located}
use Rattle.exif_edit_base.specs.Walked.{Finds, Walked}
use Rattle.exif_edit_base.specs.declared.patch.Span.{Span}
use Rattle.exif_edit_base.specs.Spans.{nowhere, value_span, within}
use Rattle.exif_edit.specs.Erasing.{clipped}
use Rattle.exif_edit.specs.GpsAlone.{all_kept, chain_kept, gps_is_unshared}
use Rattle.exif_edit.specs.Sharing.{overlaps}
use Rattle.exif_edit.proofs.WalkedDirectories.{kept_of, offsets_of, walked_kept, walked_offsets}
use Rattle.exif_change_laws.specs.Apart.{AreGpsDataVisited, visited_directory_spans, visited_spans}
use Rattle.exif_change_laws.proofs.ApartCounts.{HaveBytes, Lacks, apart_holders, apart_misses, apart_of, Where, behind, before, has, has_before, has_behind, has_inside, inside, stands, holders, holders-append, holders_more, holders_none}
use Rattle.exif_change_laws.proofs.ApartEntries.{all_have, all_looked, looked_has, nothing_met}

-- what a walk of the data finds
walk : List ℕ → Walked
walk bytes = record {
  entries = map entry_of (located bytes);
  gps = visited_gps bytes;
  directories = directory_offsets bytes;
}

walk_finds : (bytes : List ℕ) → Finds bytes (walk bytes)
unfolding walk
walk_finds bytes = record { entries = refl; gps = refl; directories = refl }

module _ (number : Reading) (bytes : List ℕ) where
  abbrev looked : List ℕ → List Stretch
  looked ps = flat_map (looked_at number bytes) ps

  -- directories are those of GPS data and the others
  pub looked_parts : (i : ℕ) (ds : List DirectoryOffset)
      → holders i (looked (offsets_of (kept_of ds))) + holders i (looked (gps_of ds))
      ≡ holders i (looked (offsets_of ds))
  looked_parts i [] = let a = holders_none i in omega arith
  looked_parts i (d ∷ ds) = by_context d.context d.offset (looked_parts i ds)
    where
      other : (p : ℕ)
          → holders i (looked (offsets_of (kept_of ds))) + holders i (looked (gps_of ds))
          ≡ holders i (looked (offsets_of ds))
          → holders i (looked (p ∷ offsets_of (kept_of ds))) + holders i (looked (gps_of ds))
          ≡ holders i (looked (p ∷ offsets_of ds))
      other p rest =
          let a = holders-append i (looked_at number bytes p) (looked (offsets_of (kept_of ds))) in
          let b = holders-append i (looked_at number bytes p) (looked (offsets_of ds)) in
          omega arith

      by_context : (c : Context) (p : ℕ)
          → holders i (looked (offsets_of (kept_of ds))) + holders i (looked (gps_of ds))
          ≡ holders i (looked (offsets_of ds))
          → holders i (looked (offsets_of (kept_of (record { offset = p; context = c } ∷ ds))))
          + holders i (looked (gps_of (record { offset = p; context = c } ∷ ds)))
          ≡ holders i (looked (p ∷ offsets_of ds))
      by_context Tiff p rest = other p rest
      by_context Exif p rest = other p rest
      by_context Interop p rest = other p rest
      by_context Gps p rest =
          let a = holders-append i (looked_at number bytes p) (looked (gps_of ds)) in
          let b = holders-append i (looked_at number bytes p) (looked (offsets_of ds)) in
          omega arith

  -- ---- a stretch without a byte of GPS directories and their values

  module _ (t : Stretch) (some : 0 < t.len) where
    abbrev Free : List Stretch → Type 0
    Free ss = Lacks t ss

    left_free : (ss ts : List Stretch) → Free (ss ++ ts) → Free ss
    left_free ss ts h i low high =
        let a = h i low high in
        let b = holders-append i ss ts in
        omega arith

    right_free : (ss ts : List Stretch) → Free (ss ++ ts) → Free ts
    right_free ss ts h i low high =
        let a = h i low high in
        let b = holders-append i ss ts in
        omega arith

    -- a stretch that it lacks is apart from it
    one_apart : (s : Stretch) (ss : List Stretch) → 0 < s.len → Free (s ∷ ss) → IsApart s t
    one_apart s ss more h =
        apart_of s t more some (λ i low high. none i (λ near far. h i near far) low high)
      where
        none : (i : ℕ) → (t.offset ≤ i → i < t.offset + t.len → holders i (s ∷ ss) ≡ 0)
            → s.offset ≤ i → i < s.offset + s.len → has i t ≡ 0
        none i k low high = by_offset (stands i t)
          where
            by_offset : Where i t → has i t ≡ 0
            by_offset (inside near far) =
                let a = k near far in
                let b = holders_more i s ss in
                let c = has_inside i s low high in
                absurd (omega arith)
            by_offset (before near) = has_before i t near
            by_offset (behind far) = has_behind i t far

    -- hence the directory, as far as it lies in the data
    clipped_misses : (q n : ℕ) (ss : List Stretch) → 0 < n
        → Free (record { offset = q; len = n } ∷ ss)
        → overlaps (clipped (length bytes) (record { offset = q; len = n })) t ≡ false
    clipped_misses q n ss more h = by_test (nat_le q (length bytes))
        (one_apart (record { offset = q; len = n }) ss more h)
      where
        shorter : (m : ℕ) → m ≤ n → IsApart (record { offset = q; len = n }) t
            → IsApart (record { offset = q; len = m }) t
        shorter m few (inl k) = inl (omega arith)
        shorter m few (inr k) = inr k

        by_test : (b : Bool) → IsApart (record { offset = q; len = n }) t
            → overlaps (if b then record { offset = q; len = min n (length bytes - q) } else nowhere) t
            ≡ false
        by_test true k =
            apart_misses (record { offset = q; len = min n (length bytes - q) }) t
            (shorter (min n (length bytes - q)) (omega arith) k)
        by_test false k = nothing_met t

    -- and the value of an entry
    value_misses : (e : ℕ) → Free (value_stretch number bytes e)
        → overlaps (value_span number bytes e) t ≡ false
    value_misses e h =
        by_tests (nat_le size 4) (nat_lt 4 size) (nat_le (offset + size) (length bytes)) refl refl refl h
      where
        size : ℕ
        size = known_length (type_of (number_at number 2 bytes (e + 2))) * number_at number 4 bytes (e + 4)

        offset : ℕ
        offset = number_at number 4 bytes (e + 8)

        none_within : (d : Bool) → overlaps (if d then nowhere else nowhere) t ≡ false
        none_within true = nothing_met t
        none_within false = nothing_met t

        by_tests : (a b c : Bool) → nat_le size 4 ≡ a → nat_lt 4 size ≡ b
            → nat_le (offset + size) (length bytes) ≡ c
            → Free (if b && c then record { offset = offset; len = size } ∷ [] else [])
            → overlaps
            (within (length bytes)
            (if a then nowhere else record { offset = offset; len = size })) t ≡ false
        by_tests true b c p q r h = none_within (nat_le (0 + 0) (length bytes))
        by_tests false false c p q r h = absurd (grind (arith, nat_tests))
        by_tests false true true p q r h = rw r (apart_misses (record { offset = offset; len = size }) t
            (one_apart (record { offset = offset; len = size }) [] (grind (arith, nat_tests)) h))
        by_tests false true false p q r h = rw r (nothing_met t)

    none_met : (es : List ℕ) → Free (flat_map (value_stretch number bytes) es)
        → list_any (λ s. overlaps s t) (map (value_span number bytes) es) ≡ false
    none_met [] h = refl
    none_met (e ∷ es) h =
        let a = value_misses e
        (left_free (value_stretch number bytes e) (flat_map (value_stretch number bytes) es) h) in
        let b = none_met es
        (right_free (value_stretch number bytes e) (flat_map (value_stretch number bytes) es) h) in
        rw (a, b) refl

    spans_missed : (q : ℕ) → Free (looked_at number bytes q)
        → list_any (λ s. overlaps s t) (visited_directory_spans number bytes q) ≡ false
    spans_missed q h =
        let values = flat_map (value_stretch number bytes) (entry_offsets number bytes q) in
        let a = clipped_misses q (2 + 12 * whole_entries number bytes q + 4) values (omega arith) h in
        let b = none_met (entry_offsets number bytes q)
        (right_free (directory_stretch number bytes q ∷ []) values h) in
        rw (a, b) refl

    -- a stretch of no byte that is looked at of directories overlaps neither them nor their values
    pub all_missed : (qs : List ℕ) → Free (looked qs)
        → list_any (λ s. overlaps s t) (flat_map (visited_directory_spans number bytes) qs) ≡ false
    all_missed [] h = refl
    all_missed (q ∷ qs) h =
        let a = spans_missed q (left_free (looked_at number bytes q) (looked qs) h) in
        let b = all_missed qs (right_free (looked_at number bytes q) (looked qs) h) in
        let c = list_any-append (λ (s : Span). overlaps s t) (visited_directory_spans number bytes q)
        (flat_map (visited_directory_spans number bytes) qs) in
        c ∙ rw (a, b) refl

  -- of stretches that share no byte with them
  none_any : (qs : List ℕ) (ts : List Stretch) → HaveBytes ts
      → ((i : ℕ) → holders i ts + holders i (looked qs) ≤ 1)
      → list_any (λ t. list_any (λ s. overlaps s t) (flat_map (visited_directory_spans number bytes) qs)) ts
      ≡ false
  none_any qs [] some h = refl
  none_any qs (t ∷ ts) some h =
      let a = all_missed t some.0 qs (λ i low high. lacks i (h i) (has_inside i t low high)) in
      let b = none_any qs ts some.1 (λ i. fewer i (h i)) in
      rw (a, b) refl
    where
      lacks : (i : ℕ) → holders i (t ∷ ts) + holders i (looked qs) ≤ 1 → has i t ≡ 1
          → holders i (looked qs) ≡ 0
      lacks i few one = let more = holders_more i t ts in omega arith

      fewer : (i : ℕ) → holders i (t ∷ ts) + holders i (looked qs) ≤ 1
          → holders i ts + holders i (looked qs) ≤ 1
      fewer i few = let more = holders_more i t ts in omega arith

-- ---- the whole

-- where no two stretches that are looked at overlap, GPS directories and values stand alone
pub offsets_apart : (bytes : List ℕ) (order : Order) → header bytes ≡ Ok order
    → AreGpsDataVisited (number_of order) bytes
    → are_apart (all_looked (number_of order) bytes) ≡ true
    → gps_is_unshared (number_of order) bytes ≡ true
unfolding visited_spans visited_gps walk
offsets_apart bytes order head visited apart =
    ap
    (λ ss. not (list_any (λ t. list_any (λ (s : Span). overlaps s t) ss) (all_kept number bytes)))
    visited
    ∙ ap not (none_any number bytes (gps_of ds) (all_kept number bytes) have few)
  where
    number : Reading
    number = number_of order

    ds : List DirectoryOffset
    ds = directory_offsets bytes

    all : offsets_of ds ≡ chain_directories 8 number bytes (number_at number 4 bytes 4)
    all = walked_offsets bytes order (walk bytes) head (walk_finds bytes)

    kept : offsets_of (kept_of ds) ≡ chain_kept 8 number bytes (number_at number 4 bytes 4)
    kept = walked_kept bytes order (walk bytes) head (walk_finds bytes)

    have : HaveBytes (all_kept number bytes)
    have = (
      omega arith,
      all_have number bytes (looked_at number bytes)
          (chain_kept 8 number bytes (number_at number 4 bytes 4)) (looked_has number bytes),
    )

    few : (i : ℕ) → holders i (all_kept number bytes) + holders i (looked number bytes (gps_of ds)) ≤ 1
    few i =
        let a = apart_holders i (all_looked number bytes) apart in
        let b = looked_parts number bytes i ds in
        let c = ap (λ ps. holders i (looked number bytes ps)) all in
        let d = ap (λ ps. holders i (looked number bytes ps)) kept in
        let f = holders_more i (record { offset = 0; len = 8 })
        (looked number bytes (chain_directories 8 number bytes (number_at number 4 bytes 4))) in
        let g = holders_more i (record { offset = 0; len = 8 })
        (looked number bytes (chain_kept 8 number bytes (number_at number 4 bytes 4))) in
        omega arith
