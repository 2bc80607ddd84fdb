-- What an answered appending of a value promises.
use Rattle.std.proofs.Common.{◌≡◌, ◌≤◌, ◌<◌, ◌+◌, ℕ, Bool, true, false, if◌then◌else◌, List, [], ◌∷◌, ◌++◌, length, ◌⊎◌, inl, inr, replicate, All, Some, Ok, refl, sym, subst, arith, length-append}
use Rattle.std.specs.Prelude.{◌^◌, ◌-◌, ◌%◌, nat_lt}
use Rattle.std.proofs.lemmas.Bool.Decides.{nat_tests}
use Rattle.std.proofs.lemmas.List.{length-replicate}
use Rattle.std.proofs.lemmas.List.Elements.{All-nil, All-cons, All-append}
use Rattle.exif_base.specs.Orders.{number_of, order_named}
use Rattle.exif_base.specs.declared.endian.Order.{Order}
use Rattle.exif_types.specs.ValueTypes.{count_of}
use Rattle.exif_types.specs.declared.tag.Tag.{Tag}
use Rattle.exif_text.specs.declared.ifd.In.{In}
use Rattle.exif_types.specs.declared.value.Value.{Value}
use Rattle.exif_tiff.specs.Trace.{fields_of, trace}
use Rattle.exif_layout.specs.Encoding.{encode, moved_to}
use Rattle.exif_layout.specs.Offsets.{even}
use Rattle.exif_layout.specs.Refused.{is_unknown}
use Rattle.exif_edit_base.specs.Causes.{offset_named, shared, too_long, unknown_type, unless, ◌>>=◌}
use Rattle.exif_edit_base.specs.Finding.{find_answer, last_located, replaced}
use Rattle.exif_edit_base.specs.Locations.{Located, located}
use Rattle.exif_edit_base.specs.Patches.{FitsIn, inside, patched, zeros_over}
use Rattle.exif_edit_base.specs.Readings.{Read, reading}
use Rattle.exif_edit_base.specs.declared.patch.Patch.{Patch}
use Rattle.exif_edit_base.specs.declared.patch.Span.{Span}
use Rattle.exif_edit_base.proofs.CauseSteps.{bound, passed}
use Rattle.exif_edit_base.proofs.FindSteps.{header_named}
use Rattle.exif_edit_base.proofs.PatchSteps.{Misses, length-patched, outside_offset}
use Rattle.exif_edit.specs.Promises.{ReadAs}
use Rattle.exif_edit_base.specs.Spans.{value_space}
use Rattle.exif_edit.specs.Setting.{entry_bytes, is_small, names_offsets}
use Rattle.exif_edit.proofs.ReadSound.{reads_are, reads_so}
use Rattle.exif_edit.proofs.SetSound.{value_lengths, was_found}
use Rattle.exif_grow.specs.Appending.{append_answer, append_fault, appended, appended_at, appended_offset, entry_patch, expected_appended, span_cleared, value_added, value_tail}
use Rattle.exif_grow.specs.Growing.{Added, aligned, first_read, grown}
use Rattle.exif_grow.specs.Promises.{IsAppended}
use Rattle.exif_grow.proofs.GrowthSteps.{first_parts, grown_outside}

-- ---- an edit that fits

-- the entry at e and its span lie in data of a length, and the value fits aligned them
pub record FitsAppended (order : Order) (value : Value) (e : ℕ) (span : Span) (n : ℕ) : Type 0 where
  pub whole : e + 12 ≤ n
  pub far : span.offset + span.len ≤ n
  pub small : even n + length (encode order value) < 2 ^ 32

pub fits_appended : (order : Order) (value : Value) (e : ℕ) (span : Span) (n : ℕ)
    → append_fault order value e span n ≡ Ok tt → FitsAppended order value e span n
fits_appended order value e span n h =
    let a = passed (nat_lt n (e + 12)) shared
    (λ t. unless (nat_lt n (span.offset + span.len)) shared >>= λ u. unless
    (nat_lt (2 ^ 32 - 1) (count_of value)) too_long >>= λ v. unless
    (nat_lt (2 ^ 32 - 1) (even n + length (encode order value))) too_long) tt h in
    let b = passed (nat_lt n (span.offset + span.len)) shared
    (λ u. unless (nat_lt (2 ^ 32 - 1) (count_of value)) too_long >>= λ v. unless
    (nat_lt (2 ^ 32 - 1) (even n + length (encode order value))) too_long) tt a.1 in
    let d = passed (nat_lt (2 ^ 32 - 1) (count_of value)) too_long
    (λ v. unless (nat_lt (2 ^ 32 - 1) (even n + length (encode order value))) too_long) tt b.1 in
    let f = last (nat_lt (2 ^ 32 - 1) (even n + length (encode order value))) d.1 in
    let p = a.0 in
    let q = b.0 in
    record {
      whole = grind (arith, nat_tests);
      far = grind (arith, nat_tests);
      small = grind (arith, nat_tests);
    }
  where
    last : (t : Bool) → unless t too_long ≡ Ok tt → t ≡ false
    last false e = refl
    last true e = cc

length-entry : (order : Order) (value : Value) (offset : ℕ)
    → length (entry_bytes order value offset (encode order value)) ≡ 10
length-entry order value offset =
    (value_lengths order value (record { offset = offset; len = length (encode order value) })
    (omega arith)).1

-- what holds of both patches holds of all
both : (P : Patch → Type 0) (clear : Bool) (order : Order) (value : Value) (e n : ℕ) (span : Span)
    → P (zeros_over span) → P (entry_patch order value e (even n))
    → All P (span_cleared clear span ++ entry_patch order value e (even n) ∷ [])
both P clear order value e n span a b =
    All-append P (span_cleared clear span) _ (by_test clear) (All-cons P _ [] b (All-nil P))
  where
    by_test : (c : Bool) → All P (span_cleared c span)
    by_test true = All-cons P _ [] a (All-nil P)
    by_test false = All-nil P

-- the patches lie in the data
pub added_fits : (clear : Bool) (order : Order) (value : Value) (e : ℕ) (span : Span) (n : ℕ)
    → FitsAppended order value e span n
    → All (FitsIn n) (value_added clear order value e span n).patches
added_fits clear order value e span n f =
    let l = length-entry order value (even n) in
    let z : length (replicate {A = ℕ} span.len 0) ≡ span.len = length-replicate span.len 0 in
    let whole = f.whole in
    let far = f.far in
    both (FitsIn n) clear order value e n span (omega arith) (omega arith)

added_misses : (clear : Bool) (order : Order) (value : Value) (e : ℕ) (span : Span) (n i : ℕ)
    → inside i (record { offset = e + 2; len = 10 }) ≡ false → inside i span ≡ false
    → All (Misses i) (value_added clear order value e span n).patches
added_misses clear order value e span n i a b =
    let l = length-entry order value (even n) in
    let z : length (replicate {A = ℕ} span.len 0) ≡ span.len = length-replicate span.len 0 in
    let x = subst (λ m. (i < span.offset) ⊎ (span.offset + m ≤ i)) (sym z) (outside_offset i span b) in
    let y = subst (λ m. (i < e + 2) ⊎ (e + 2 + m ≤ i)) (sym l)
    (outside_offset i (record { offset = e + 2; len = 10 }) a) in
    both (Misses i) clear order value e n span x y

-- the grown data are small enough
tail_small : (n : ℕ) (encoded : List ℕ) → n < 2 ^ 32 → even n + length encoded < 2 ^ 32
    → n + length (value_tail n encoded) < 2 ^ 32
tail_small n encoded h f = by_test (is_small encoded)
  where
    by_test : (b : Bool) → n + length (if b then [] else aligned n encoded) < 2 ^ 32
    by_test true = omega arith
    by_test false =
        let z : length (replicate {A = ℕ} (n % 2) 0) ≡ n % 2 = length-replicate (n % 2) 0 in
        let l = length-append (replicate {A = ℕ} (n % 2) 0) encoded in
        omega arith

-- ---- the whole

-- what is added where an answer is given
pub record WasAppended (bytes : List ℕ) (tag : Tag) (k : In) (value : Value) (a : Added) : Type 0
  where
    pub read : Read
    pub at : Located
    pub reads : reading bytes ≡ Ok read
    pub last : last_located tag k (located bytes) ≡ Some at
    pub clear : Bool
    pub fits : FitsAppended (order_named read.little) value at.entry
        (value_space (number_of (order_named read.little)) bytes at.entry) (length bytes)
    pub is : value_added clear (order_named read.little) value at.entry
        (value_space (number_of (order_named read.little)) bytes at.entry) (length bytes) ≡ a
    pub reads_new : reading (grown a bytes) ≡ Ok (expected_appended tag k value at.entry bytes read)

-- what is added at an entry
record At (tag : Tag) (k : In) (value : Value) (e : ℕ) (bytes : List ℕ) (read : Read) (a : Added)
    : Type 0 where
  clear : Bool
  fits : FitsAppended (order_named read.little) value e
      (value_space (number_of (order_named read.little)) bytes e) (length bytes)
  is : value_added clear (order_named read.little) value e
      (value_space (number_of (order_named read.little)) bytes e) (length bytes) ≡ a
  reads_new : reading (grown a bytes) ≡ Ok (expected_appended tag k value e bytes read)

at_entry : (tag : Tag) (k : In) (value : Value) (e : ℕ) (bytes : List ℕ) (read : Read) (a : Added)
    → appended_at tag k value e bytes read ≡ Ok a → At tag k value e bytes read a
unfolding appended_at
at_entry tag k value e bytes read a h =
    let order = order_named read.little in
    let span = value_space (number_of order) bytes e in
    let n = length bytes in
    let b = bound (append_fault order value e span n)
    (λ u. first_read (expected_appended tag k value e bytes read) bytes
    (value_added true order value e span n) (value_added false order value e span n)) a h in
    let p = first_parts (expected_appended tag k value e bytes read) bytes
    (value_added true order value e span n) (value_added false order value e span n) a b.2 in
    let f = fits_appended order value e span n b.1 in
    let r = reads_so (grown a bytes) (expected_appended tag k value e bytes read) p.0 in
    elim p.1 as (λ x. At tag k value e bytes read a) [
      | inl s ↦ record { clear = true; fits = f; is = s; reads_new = r }
      | inr s ↦ record { clear = false; fits = f; is = s; reads_new = r }
    ]

was_found_so : (bytes : List ℕ) (a : Added) (tag : Tag) (k : In) (value : Value)
    → appended bytes tag k value ≡ Ok a → WasAppended bytes tag k value a
unfolding appended
was_found_so bytes a tag k value h =
    let b = bound (find_answer bytes tag k)
    (λ found. appended_at tag k value found.1 bytes found.0) a h in
    let w = was_found bytes tag k b.0 b.1 in
    let x : At tag k value w.at.entry bytes b.0.0 a =
    rw w.entry (at_entry tag k value b.0.1 bytes b.0.0 a b.2) in
    record {
      read = b.0.0;
      at = w.at;
      reads = w.reads;
      last = w.last;
      clear = x.clear;
      fits = x.fits;
      is = x.is;
      reads_new = x.reads_new;
    }

-- what an answer adds appends the value, and the data are read with it then
pub was_appended : (bytes : List ℕ) (a : Added) (tag : Tag) (k : In) (value : Value)
    → append_answer bytes tag k value ≡ Ok a → WasAppended bytes tag k value a
unfolding append_answer
was_appended bytes a tag k value h =
    let x = passed (names_offsets tag) offset_named
    (λ u. unless (is_unknown value) unknown_type >>= λ v. appended bytes tag k value) a h in
    let y = passed (is_unknown value) unknown_type (λ v. appended bytes tag k value) a x.1 in
    was_found_so bytes a tag k value y.1

-- the patches that append a value lie in the data
pub append_fits : (bytes : List ℕ) (a : Added) (tag : Tag) (k : In) (value : Value)
    → append_answer bytes tag k value ≡ Ok a → All (FitsIn (length bytes)) a.patches
append_fits bytes a tag k value h =
    let w = was_appended bytes a tag k value h in
    subst (λ x. All (FitsIn (length bytes)) x.patches) w.is
    (added_fits w.clear (order_named w.read.little) value w.at.entry
    (value_space (number_of (order_named w.read.little)) bytes w.at.entry) (length bytes) w.fits)

-- with what is added the last field of a name has the value, and all else is as it was
pub append_sound : (old : List ℕ) (a : Added) (tag : Tag) (k : In) (value : Value)
    → length old < 2 ^ 32
    → append_answer old tag k value ≡ Ok a → IsAppended old tag k value (grown a old)
append_sound old a tag k value small h =
    let w = was_appended old a tag k value h in
    let order = order_named w.read.little in
    let span = value_space (number_of order) old w.at.entry in
    let fit = append_fits old a tag k value h in
    let r = reads_are old w.read w.reads in
    let s = reads_are (grown a old) (expected_appended tag k value w.at.entry old w.read)
    w.reads_new in
    let offset = appended_offset order value w.at.entry (length old) in
    record {
      order = order;
      header = header_named old w.read w.reads;
      at = w.at;
      found = w.last;
      reads =
          subst (λ xs. ReadAs (grown a old)
          (replaced tag k (moved_to offset value) (fields_of (trace old))) xs) r.2
          (subst (λ xs. ReadAs (grown a old) (replaced tag k (moved_to offset value) xs)
          w.read.faults) r.1 s.0);
      small =
          let l = length-patched a.patches old fit in
          let m = length-append (patched a.patches old) a.tail in
          let t : length old + length a.tail < 2 ^ 32 =
          subst (λ x. length old + length x.tail < 2 ^ 32) w.is
          (tail_small (length old) (encode order value) small w.fits.small) in
          omega arith;
      outside = λ i x y z. grown_outside a old i fit x
          (subst (λ v. All (Misses i) v.patches) w.is
          (added_misses w.clear order value w.at.entry span (length old) i y z));
    }
