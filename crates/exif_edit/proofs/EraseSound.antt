-- What an answered erasing promises.
use Rattle.std.proofs.Common.{◌≡◌, ◌≤◌, ◌+◌, ◌-◌, ◌*◌, min, ℕ, Bool, true, false, if◌then◌else◌, List, [], ◌∷◌, ◌++◌, length, get_or, map, replicate, All, Result, Ok, Err, refl, sym, ap, subst, ◌∙◌, arith}
use Rattle.std.specs.Prelude.{◌&&◌, nat_le}
use Rattle.std.specs.Bool.{beq}
use Rattle.std.specs.Cmp.Lexicographic.{pointwise}
use Rattle.std.specs.List.{flat_map}
use Rattle.std.proofs.lemmas.Bool.{false≢true, and_parts}
use Rattle.std.proofs.lemmas.Bool.Decides.{nat_tests}
use Rattle.std.proofs.lemmas.Slice.Eq.{slice_eq-Decides}
use Rattle.std.proofs.lemmas.List.{length-replicate}
use Rattle.std.proofs.lemmas.List.Elements.{All-nil, All-cons}
use Rattle.exif_base.specs.Bytes.{Reading}
use Rattle.exif_base.specs.Orders.{number_of, order_named}
use Rattle.exif_types.specs.FieldEq.{field_eq, field_Decides}
use Rattle.exif_tiff.specs.Trace.{trace, fields_of, faults_of, whole_entries, entry_offsets}
use Rattle.exif_tiff.specs.declared.fault.Fault.{Fault}
use Rattle.exif_edit_base.specs.Causes.{of_data, shared}
use Rattle.exif_edit_base.specs.Patches.{FitsIn, patched, zeros_over}
use Rattle.exif_edit_base.specs.GpsOffsets.{gps_offsets}
use Rattle.exif_edit_base.specs.Readings.{Read, reading}
use Rattle.exif_edit_base.specs.declared.patch.Patch.{Patch}
use Rattle.exif_edit_base.specs.declared.patch.Span.{Span}
use Rattle.exif_edit_base.proofs.CauseSteps.{bound, data_read, tested}
use Rattle.exif_edit_base.proofs.FindSteps.{header_named}
use Rattle.exif_edit_base.proofs.PatchSteps.{AllWithin, length-patched, zeroed_at}
use Rattle.exif_edit_base.specs.Rereading.{clears}
use Rattle.exif_edit_base.specs.Spans.{nowhere, value_span, within, value_space}
use Rattle.exif_edit.specs.Erasing.{cleared, clipped, directory_spans, erase_patches, gps_space, gps_spans, gps_value_span, kept, without_gps}
use Rattle.exif_edit.specs.Promises.{IsErased, ReadAs}
use Rattle.exif_edit.proofs.ReadSound.{reads_are}

-- ---- the spans lie in the data

-- where the spans of two lists lie in data of a length, those of the joined list do
pub within-append : (n : ℕ) (xs ys : List Span) → AllWithin n xs → AllWithin n ys
    → AllWithin n (xs ++ ys)
within-append n [] ys h k = k
within-append n (x ∷ xs) ys h k = (h.0, within-append n xs ys h.1 k)

clipped_within : (total : ℕ) (s : Span) → (clipped total s).offset + (clipped total s).len ≤ total
clipped_within total s = by_test (nat_le s.offset total) refl
  where
    by_test : (b : Bool) → nat_le s.offset total ≡ b
        → (if b then record { offset = s.offset; len = min s.len (total - s.offset) } else
        nowhere).offset +
        (if b then record { offset = s.offset; len = min s.len (total - s.offset) } else nowhere).len ≤
        total
    by_test true e = let h : s.offset ≤ total = grind (arith, nat_tests) in omega arith
    by_test false e = omega arith

within_within : (total : ℕ) (s : Span) → (within total s).offset + (within total s).len ≤ total
within_within total s = by_test (nat_le (s.offset + s.len) total) refl
  where
    by_test : (b : Bool) → nat_le (s.offset + s.len) total ≡ b
        → (if b then s else nowhere).offset + (if b then s else nowhere).len ≤ total
    by_test true e = grind (arith, nat_tests)
    by_test false e = omega arith

-- the spans of the values of entries lie in the data
pub values_within : (number : Reading) (bytes es : List ℕ)
    → AllWithin (length bytes) (map (value_span number bytes) es)
values_within number bytes [] = tt
values_within number bytes (e ∷ es) =
    (within_within (length bytes) (value_space number bytes e), values_within number bytes es)

-- and so do those of entries of GPS directories
gps_values_within : (number : Reading) (bytes es : List ℕ)
    → AllWithin (length bytes) (map (gps_value_span number bytes) es)
gps_values_within number bytes [] = tt
gps_values_within number bytes (e ∷ es) =
    (clipped_within (length bytes) (gps_space number bytes e), gps_values_within number bytes es)

directories_within : (number : Reading) (bytes qs : List ℕ)
    → AllWithin (length bytes) (flat_map (directory_spans number bytes) qs)
directories_within number bytes [] = tt
directories_within number bytes (q ∷ qs) =
    within-append (length bytes) (directory_spans number bytes q)
    (flat_map (directory_spans number bytes) qs) (
      clipped_within (length bytes)
          (record { offset = q; len = 2 + 12 * whole_entries number bytes q + 4 }),
      gps_values_within
          number bytes (entry_offsets number bytes q),
    )
    (directories_within number bytes qs)

-- the spans of GPS directories and of their values lie in the data
pub spans_within : (number : Reading) (bytes : List ℕ)
    → AllWithin (length bytes) (gps_spans number bytes)
unfolding gps_spans
spans_within number bytes = directories_within number bytes (gps_offsets number bytes)

-- zeros over spans that lie in data of a length lie there, too
pub zeros_fit : (n : ℕ) (ss : List Span) → AllWithin n ss → All (FitsIn n) (map zeros_over ss)
zeros_fit n [] h = All-nil (FitsIn n)
zeros_fit n (s ∷ ss) h =
    let l : length (replicate {A = ℕ} s.len 0) ≡ s.len = length-replicate s.len 0 in
    let a = h.0 in
    All-cons (FitsIn n) (zeros_over s) (map zeros_over ss) (omega (arith, l)) (zeros_fit n ss h.1)

-- patches that are zeros over GPS directories and their values lie in the data
pub gps_fit : (bytes : List ℕ) (ps : List Patch) (little : Bool)
    → ps ≡ map zeros_over (gps_spans (number_of (order_named little)) bytes)
    → All (FitsIn (length bytes)) ps
gps_fit bytes ps little e =
    let number = number_of (order_named little) in
    subst (λ qs. All (FitsIn (length bytes)) qs) (sym e)
    (zeros_fit (length bytes) (gps_spans number bytes) (spans_within number bytes))

-- ---- the whole

cleared_by : (x : (Result Read Fault)) (read : Read)
    → (elim x [
      | Ok found ↦ beq found.little read.little
          && (pointwise field_eq found.fields read.fields
          && nat_le (length found.faults) (length read.faults))
      | Err fault ↦ false
    ]) ≡ true
    → (found : Read) × (x ≡ Ok found) × (found.fields ≡ read.fields)
    × (length found.faults ≤ length read.faults)
cleared_by (Ok found) read e =
    let p = and_parts (beq found.little read.little)
    (pointwise field_eq found.fields read.fields
    && nat_le (length found.faults) (length read.faults)) e in
    let q = and_parts (pointwise field_eq found.fields read.fields)
    (nat_le (length found.faults) (length read.faults)) p.1 in
    let t = q.1 in (
      found,
      refl,
      (slice_eq-Decides field_Decides found.fields read.fields
          (pointwise field_eq found.fields read.fields) refl).0 q.0,
      grind (arith, nat_tests),
    )
cleared_by (Err fault) read e = absurd (false≢true e)

-- what answered patches are
pub record WasErased (bytes : List ℕ) (ps : List Patch) : Type 0 where
  pub read : Read
  pub found : Read
  pub reads : reading bytes ≡ Ok read
  pub zeros : ps ≡ map zeros_over (gps_spans (number_of (order_named read.little)) bytes)
  pub reads_new : reading (patched ps bytes) ≡ Ok found
  pub fields : found.fields ≡ without_gps read.fields
  pub fewer : length found.faults ≤ length read.faults

-- answered patches are zeros over the GPS data, and all fields but those of GPS are read then
pub was_erased : (bytes : List ℕ) (ps : List Patch) → erase_patches bytes ≡ Ok ps → WasErased bytes ps
unfolding erase_patches
was_erased bytes ps e =
    let a = bound (of_data (reading bytes))
    (λ read. cleared (kept read) bytes
    (map zeros_over (gps_spans (number_of (order_named read.little)) bytes))) ps e in
    let zs = map zeros_over (gps_spans (number_of (order_named a.0.little)) bytes) in
    let t = tested (clears (patched zs bytes) (kept a.0)) zs ps shared a.2 in
    let c = cleared_by (reading (patched zs bytes)) (kept a.0) t.0 in
    record {
      read = a.0;
      found = c.0;
      reads = data_read (reading bytes) a.0 a.1;
      zeros = sym t.1;
      reads_new = subst (λ qs. reading (patched qs bytes) ≡ Ok c.0) t.1 c.1;
      fields = c.2;
      fewer = c.3;
    }

-- the patches that erase GPS data lie in the data
pub erase_fits : (bytes : List ℕ) (ps : List Patch) → erase_patches bytes ≡ Ok ps
    → All (FitsIn (length bytes)) ps
erase_fits bytes ps e = let w = was_erased bytes ps e in gps_fit bytes ps w.read.little w.zeros

-- with answered patches GPS directories and their values are zeros, and all else is as it was
pub erased_sound : (old : List ℕ) (ps : List Patch) → erase_patches old ≡ Ok ps
    → IsErased old (patched ps old)
erased_sound old ps e =
    let w = was_erased old ps e in
    let number = number_of (order_named w.read.little) in
    let r = reads_are old w.read w.reads in
    let s = reads_are (patched ps old) w.found w.reads_new in
    let fields : w.found.fields ≡ without_gps (fields_of (trace old)) =
    w.fields ∙ ap without_gps r.1 in
    let few : length w.found.faults ≤ length (faults_of (trace old)) =
    subst (λ xs. length w.found.faults ≤ length xs) r.2 w.fewer in
    record {
      order = order_named w.read.little;
      header = header_named old w.read w.reads;
      as_long = length-patched ps old (gps_fit old ps w.read.little w.zeros);
      bytes = λ i. ap (λ qs. get_or (patched qs old) i 0) w.zeros
          ∙ zeroed_at (gps_spans number old) old i (spans_within number old);
      faults = w.found.faults;
      reads = subst (λ fs. ReadAs (patched ps old) fs w.found.faults) fields s.0;
      fewer = few;
    }
