-- What an answered setting of a value promises.
use Rattle.std.proofs.Common.{◌≡◌, ◌≤◌, ◌<◌, ◌+◌, ◌-◌, max, ℕ, Bool, true, false, if◌then◌else◌, List, [], ◌∷◌, ◌++◌, length, ◌⊎◌, replicate, All, Some, Result, Ok, Err, refl, sym, ap, subst, ◌∙◌, arith, length-append}
use Rattle.std.specs.Prelude.{◌^◌, ◌==◌, nat_lt}
use Rattle.std.proofs.lemmas.Bool.Decides.{nat_tests}
use Rattle.std.proofs.lemmas.List.{length-replicate}
use Rattle.std.proofs.lemmas.List.Elements.{All-nil, All-cons, All-append}
use Rattle.exif_base.specs.Orders.{number_of, order_named}
use Rattle.exif_base.specs.declared.endian.Order.{Order}
use Rattle.exif_types.specs.ValueTypes.{count_of, type_number}
use Rattle.exif_types.specs.declared.tag.Tag.{Tag}
use Rattle.exif_text.specs.declared.ifd.In.{In}
use Rattle.exif_types.specs.declared.value.Value.{Value}
use Rattle.exif_tiff.specs.Trace.{fields_of, trace}
use Rattle.exif_layout.specs.Encoding.{encode, moved_to, spelled}
use Rattle.exif_layout.specs.Refused.{is_unknown}
use Rattle.exif_layout.proofs.Images.Standing.{length_spelled}
use Rattle.exif_edit_base.specs.Causes.{Cause, no_field, of_data, or_cause, offset_named, shared, too_long, unknown_type, unless, ◌>>=◌}
use Rattle.exif_edit_base.specs.Finding.{find_answer, last_located, replaced}
use Rattle.exif_edit_base.specs.Locations.{Located, located}
use Rattle.exif_edit_base.specs.Patches.{FitsIn, inside, padded, patched}
use Rattle.exif_edit_base.specs.Readings.{Read, reading, reads_as}
use Rattle.exif_edit_base.specs.declared.patch.Patch.{Patch}
use Rattle.exif_edit_base.specs.declared.patch.Span.{Span}
use Rattle.exif_edit_base.proofs.CauseSteps.{bound, data_read, ok_same, option_told, passed, tested}
use Rattle.exif_edit_base.proofs.FindSteps.{header_named}
use Rattle.exif_edit_base.proofs.PatchSteps.{Misses, length-patched, outside_offset, patched_outside}
use Rattle.exif_edit.specs.Promises.{IsSet, ReadAs}
use Rattle.exif_edit_base.specs.Spans.{value_space}
use Rattle.exif_edit.specs.Setting.{answer_in, checked, checked_patches, entry_bytes, expected, is_small, names_offsets, space_patches, space_bytes, set_patches, set_offset, value_answer, value_patches}
use Rattle.exif_edit.proofs.ReadSound.{reads_are, reads_so}

-- ---- the texts of the patches are as long as their spaces

-- a encoded that is no longer than n has n bytes once it is padded to n
pub length-padded : (n : ℕ) (encoded : List ℕ) → length encoded ≤ n → length (padded n encoded) ≡ n
length-padded n encoded h =
    let l : length (replicate {A = ℕ} (n - length encoded) 0) ≡ n - length encoded =
    length-replicate (n - length encoded) 0 in
    let a = length-append encoded (replicate (n - length encoded) 0) in
    omega arith

length-space : (len : ℕ) (encoded : List ℕ) → length encoded ≤ max 4 len
    → length (space_bytes len encoded) ≡ len
length-space len encoded h = by_test (is_small encoded) refl
  where
    by_test : (b : Bool) → is_small encoded ≡ b → length (padded len (if b then [] else encoded)) ≡ len
    by_test true e = length-padded len [] (omega arith)
    by_test false e =
        length-padded len encoded (let l : 4 < length encoded = grind (arith, nat_tests) in omega arith)

length-entry : (order : Order) (value : Value) (offset : ℕ) (encoded : List ℕ)
    → length (entry_bytes order value offset encoded) ≡ 10
length-entry order value offset encoded = by_test (is_small encoded) refl
  where
    by_test : (b : Bool) → is_small encoded ≡ b
        → length (spelled order 2 (type_number value)
        ++ (spelled order 4 (count_of value)
        ++ (if b then padded 4 encoded else spelled order 4 offset))) ≡ 10
    by_test true e =
        let s : length encoded ≤ 4 = grind (arith, nat_tests) in
        let a = length_spelled order 2 (type_number value) in
        let b = length_spelled order 4 (count_of value) in
        let c = length-padded 4 encoded s in
        let x = length-append (spelled order 4 (count_of value)) (padded 4 encoded) in
        let y = length-append (spelled order 2 (type_number value))
        (spelled order 4 (count_of value) ++ padded 4 encoded) in
        omega arith
    by_test false e =
        let a = length_spelled order 2 (type_number value) in
        let b = length_spelled order 4 (count_of value) in
        let c = length_spelled order 4 offset in
        let x = length-append (spelled order 4 (count_of value)) (spelled order 4 offset) in
        let y = length-append (spelled order 2 (type_number value))
        (spelled order 4 (count_of value) ++ spelled order 4 offset) in
        omega arith

-- ---- an edit that fits

-- the entry at e and its space lie in the data, the value fits there, and these patches put it
pub record Fits (order : Order) (value : Value) (e : ℕ) (bytes : List ℕ) (ps : List Patch) : Type 0
  where
    pub whole : e + 12 ≤ length bytes
    pub far : (value_space (number_of order) bytes e).offset +
        (value_space (number_of order) bytes e).len ≤ length bytes
    pub encoded : length (encode order value) ≤ max 4 (value_space (number_of order) bytes e).len
    pub is : ps ≡ value_patches order value e (value_space (number_of order) bytes e)

fits_in : (order : Order) (value : Value) (e : ℕ) (s : Span) (n : ℕ) (ps : List Patch)
    → answer_in order value e s n ≡ Ok ps
    → (s.offset + s.len ≤ n) × (length (encode order value) ≤ max 4 s.len)
    × (ps ≡ value_patches order value e s)
fits_in order value e s n ps h =
    let a = passed (nat_lt n (s.offset + s.len)) shared
    (λ u. unless (nat_lt (2 ^ 32 - 1) (count_of value)) too_long >>= λ v. unless
    (nat_lt (max 4 s.len) (length (encode order value))) too_long >>= λ w. Ok
    (value_patches order value e s)) ps h in
    let b = passed (nat_lt (2 ^ 32 - 1) (count_of value)) too_long
    (λ v. unless (nat_lt (max 4 s.len) (length (encode order value))) too_long >>= λ w. Ok
    (value_patches order value e s)) ps a.1 in
    let c = passed (nat_lt (max 4 s.len) (length (encode order value))) too_long
    (λ w. Ok (value_patches order value e s)) ps b.1 in
    let p = a.0 in
    let q = c.0 in (
      grind (arith, nat_tests),
      grind (arith, nat_tests),
      sym
          (ok_same (value_patches order value e s) ps c.1),
    )

-- where the patches of a value are answered, it fits
pub edit_fits_in : (order : Order) (value : Value) (e : ℕ) (bytes : List ℕ) (ps : List Patch)
    → value_answer order value e bytes ≡ Ok ps → Fits order value e bytes ps
unfolding value_answer
edit_fits_in order value e bytes ps h =
    let a = passed (nat_lt (length bytes) (e + 12)) shared
    (λ u. answer_in order value e (value_space (number_of order) bytes e) (length bytes)) ps h in
    let p = a.0 in
    let c = fits_in order value e (value_space (number_of order) bytes e) (length bytes) ps a.1 in
    record { whole = grind (arith, nat_tests); far = c.0; encoded = c.1; is = c.2 }

-- what holds of both patches holds of all
pub both : (P : Patch → Type 0) (order : Order) (value : Value) (e : ℕ) (s : Span)
    → ((s.len == 0) ≡ false
    → P (record { offset = s.offset; bytes = space_bytes s.len (encode order value) }))
    → P (record { offset = e + 2; bytes = entry_bytes order value s.offset (encode order value) })
    → All P (value_patches order value e s)
both P order value e s a b =
    All-append P (space_patches s (encode order value)) _ (by_test (s.len == 0) refl)
    (All-cons P _ [] b (All-nil P))
  where
    by_test : (z : Bool) → (s.len == 0) ≡ z
        → All P (if z then [] else record
        { offset = s.offset; bytes = space_bytes s.len (encode order value) } ∷ [])
    by_test true e = All-nil P
    by_test false e = All-cons P _ [] (a e) (All-nil P)

-- the texts are as long as their spaces
pub value_lengths : (order : Order) (value : Value) (s : Span)
    → length (encode order value) ≤ max 4 s.len
    → (length (space_bytes s.len (encode order value)) ≡ s.len)
    × (length (entry_bytes order value s.offset (encode order value)) ≡ 10)
value_lengths order value s h = (
  length-space s.len (encode order value) h,
  length-entry order value s.offset
      (encode order value),
)

-- the patches of a value that fits lie in the data
pub value_fits : (order : Order) (value : Value) (e : ℕ) (bytes : List ℕ) (ps : List Patch)
    → Fits order value e bytes ps → All (FitsIn (length bytes)) ps
value_fits order value e bytes ps f =
    let s = value_space (number_of order) bytes e in
    let lo = length-space s.len (encode order value) f.encoded in
    let li = length-entry order value s.offset (encode order value) in
    let far = f.far in
    let whole = f.whole in
    subst (λ qs. All (FitsIn (length bytes)) qs) (sym f.is)
    (both (FitsIn (length bytes)) order value e s (λ z. omega arith) (omega arith))

-- the bytes of neither the space nor the entry
pub value_misses : (order : Order) (value : Value) (e : ℕ) (bytes : List ℕ) (ps : List Patch) (i : ℕ)
    → Fits order value e bytes ps
    → inside i (record { offset = e + 2; len = 10 }) ≡ false
    → inside i (value_space (number_of order) bytes e) ≡ false → All (Misses i) ps
value_misses order value e bytes ps i f a b =
    let s = value_space (number_of order) bytes e in
    let lo = length-space s.len (encode order value) f.encoded in
    let li = length-entry order value s.offset (encode order value) in
    let x = subst (λ n. (i < s.offset) ⊎ (s.offset + n ≤ i)) (sym lo) (outside_offset i s b) in
    let y = subst (λ n. (i < e + 2) ⊎ (e + 2 + n ≤ i)) (sym li)
    (outside_offset i (record { offset = e + 2; len = 10 }) a) in
    subst (λ qs. All (Misses i) qs) (sym f.is) (both (Misses i) order value e s (λ z. x) y)

-- ---- the whole

-- what was found
pub record WasFound (bytes : List ℕ) (tag : Tag) (k : In) (found : Read × ℕ) : Type 0 where
  pub at : Located
  pub reads : reading bytes ≡ Ok found.0
  pub last : last_located tag k (located bytes) ≡ Some at
  pub entry : at.entry ≡ found.1

-- what was found is what was read, and the entry of the last located field of the name
pub was_found : (bytes : List ℕ) (tag : Tag) (k : In) (found : Read × ℕ)
    → find_answer bytes tag k ≡ Ok found → WasFound bytes tag k found
unfolding find_answer
was_found bytes tag k found e =
    let a = bound (of_data (reading bytes))
    (λ read. or_cause (last_located tag k (located bytes)) no_field >>= λ l. Ok (read, l.entry))
    found e in
    let b = bound (or_cause (last_located tag k (located bytes)) no_field) (λ l. Ok (a.0, l.entry))
    found a.2 in
    let p = ok_same (a.0, b.0.entry) found b.2 in
    record {
      at = b.0;
      reads = data_read (reading bytes) a.0 a.1 ∙ ap (λ (x : Read × ℕ). Ok x.0) p;
      last = option_told (last_located tag k (located bytes)) no_field b.0 b.1;
      entry = ap (λ (x : Read × ℕ). x.1) p;
    }

-- what answered patches are
pub record WasSet (bytes : List ℕ) (tag : Tag) (k : In) (value : Value) (ps : List Patch) : Type 0
  where
    pub read : Read
    pub at : Located
    pub reads : reading bytes ≡ Ok read
    pub last : last_located tag k (located bytes) ≡ Some at
    pub fits : Fits (order_named read.little) value at.entry bytes ps
    pub reads_new : reading (patched ps bytes) ≡ Ok (expected tag k value at.entry bytes read)

checked_set : (bytes : List ℕ) (ps : List Patch) (tag : Tag) (k : In) (value : Value)
    → checked_patches bytes tag k value ≡ Ok ps → WasSet bytes tag k value ps
unfolding checked_patches
checked_set bytes ps tag k value h =
    let a = bound (find_answer bytes tag k)
    (λ found. value_answer (order_named found.0.little) value found.1 bytes >>= λ qs. checked
    (expected tag k value found.1 bytes found.0) bytes qs) ps h in
    let read = a.0.0 in
    let order = order_named read.little in
    let b = bound (value_answer order value a.0.1 bytes)
    (λ qs. checked (expected tag k value a.0.1 bytes read) bytes qs) ps a.2 in
    let c = tested (reads_as (patched b.0 bytes) (expected tag k value a.0.1 bytes read)) b.0 ps
    shared b.2 in
    let w = was_found bytes tag k a.0 a.1 in
    let f : Fits order value a.0.1 bytes ps =
    subst (λ qs. Fits order value a.0.1 bytes qs) c.1
    (edit_fits_in order value a.0.1 bytes b.0 b.1) in
    let r : reading (patched ps bytes) ≡ Ok (expected tag k value a.0.1 bytes read) =
    subst (λ qs. reading (patched qs bytes) ≡ Ok (expected tag k value a.0.1 bytes read)) c.1
    (reads_so (patched b.0 bytes) (expected tag k value a.0.1 bytes read) c.0) in
    record {
      read = read;
      at = w.at;
      reads = w.reads;
      last = w.last;
      fits = rw w.entry f;
      reads_new = rw w.entry r;
    }

-- answered patches put a value that fits, and the data are read with it then
pub was_set : (bytes : List ℕ) (ps : List Patch) (tag : Tag) (k : In) (value : Value)
    → set_patches bytes tag k value ≡ Ok ps → WasSet bytes tag k value ps
unfolding set_patches
was_set bytes ps tag k value h =
    let a = passed (names_offsets tag) offset_named
    (λ u. unless (is_unknown value) unknown_type >>= λ v. checked_patches bytes tag k value) ps
    h in
    let b = passed (is_unknown value) unknown_type (λ v. checked_patches bytes tag k value) ps
    a.1 in
    checked_set bytes ps tag k value b.1

-- the patches that set a value lie in the data
pub set_fits : (bytes : List ℕ) (ps : List Patch) (tag : Tag) (k : In) (value : Value)
    → set_patches bytes tag k value ≡ Ok ps → All (FitsIn (length bytes)) ps
set_fits bytes ps tag k value h =
    let w = was_set bytes ps tag k value h in
    value_fits (order_named w.read.little) value w.at.entry bytes ps w.fits

-- with answered patches the last field of a name has the value, and all else is as it was
pub set_sound : (old : List ℕ) (ps : List Patch) (tag : Tag) (k : In) (value : Value)
    → set_patches old tag k value ≡ Ok ps → IsSet old tag k value (patched ps old)
set_sound old ps tag k value h =
    let w = was_set old ps tag k value h in
    let order = order_named w.read.little in
    let fit = value_fits order value w.at.entry old ps w.fits in
    let r = reads_are old w.read w.reads in
    let s = reads_are (patched ps old) (expected tag k value w.at.entry old w.read) w.reads_new in
    let offset = set_offset (value_space (number_of order) old w.at.entry).offset w.at.entry
    (encode order value) in
    record {
      order = order;
      header = header_named old w.read w.reads;
      offset = offset;
      reads =
          subst (λ xs. ReadAs (patched ps old)
          (replaced tag k (moved_to offset value) (fields_of (trace old))) xs) r.2
          (subst (λ xs. ReadAs (patched ps old) (replaced tag k (moved_to offset value) xs)
          w.read.faults) r.1 s.0);
      at = w.at;
      found = w.last;
      as_long = length-patched ps old fit;
      outside = λ i x y. patched_outside ps old i fit
          (value_misses order value w.at.entry old ps i w.fits x y);
    }
