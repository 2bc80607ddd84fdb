-- Readings in the words of the public answers.
use Rattle.std.proofs.Common.{◌≡◌, ℕ, Bool, true, false, List, None, Result, Ok, Err, refl, sym, ap, ◌∙◌}
use Rattle.std.specs.Prelude.{◌&&◌}
use Rattle.std.specs.Bool.{Decides, beq}
use Rattle.std.specs.Cmp.{booleans_Decides}
use Rattle.std.specs.Cmp.Lexicographic.{pointwise}
use Rattle.std.proofs.lemmas.Bool.{false≢true, and_parts}
use Rattle.std.proofs.lemmas.Slice.Eq.{slice_eq-Decides}
use Rattle.exif_base.specs.Orders.{number_of}
use Rattle.exif_base.specs.declared.endian.Order.{Order}
use Rattle.exif_types.specs.FieldEq.{field_eq, field_Decides}
use Rattle.exif_types.specs.declared.field.Field.{Field}
use Rattle.exif_tiff.specs.Answers.{answer_of}
use Rattle.exif_tiff.specs.Trace.{header, trace, ordered_trace, fields_of, faults_of}
use Rattle.exif_tiff.specs.declared.fault.Fault.{Fault}
use Rattle.exif_tiff.specs.declared.fault.Fault.TheVariants.{DataTooLarge, TruncatedHeader, InvalidByteOrder, InvalidFortyTwo, TruncatedCount, TruncatedDirectory, TruncatedNextOffset, TruncatedValue, InvalidPointer, UnexpectedNext, TooManyDirectories, TooManyEntries}
use Rattle.exif_edit_base.specs.Readings.{Read, fault_eq, is_little, read_eq, reading, reads_as}
use Rattle.exif_edit_base.proofs.ReadSteps.{reading_by}
use Rattle.exif_edit.specs.Promises.{ReadAs}
use Rattle.exif_tiff.proofs.TiffAnswers.{raw_right, trace_right}

-- ---- the tests decide

-- the test of two faults tells whether they are the same
pub fault_Decides : (a b : Fault) → Decides (fault_eq a b) (a ≡ b)
fault_Decides DataTooLarge DataTooLarge = (λ t. refl, λ e. refl)
fault_Decides TruncatedHeader TruncatedHeader = (λ t. refl, λ e. refl)
fault_Decides InvalidByteOrder InvalidByteOrder = (λ t. refl, λ e. refl)
fault_Decides InvalidFortyTwo InvalidFortyTwo = (λ t. refl, λ e. refl)
fault_Decides TruncatedCount TruncatedCount = (λ t. refl, λ e. refl)
fault_Decides TruncatedDirectory TruncatedDirectory = (λ t. refl, λ e. refl)
fault_Decides TruncatedNextOffset TruncatedNextOffset = (λ t. refl, λ e. refl)
fault_Decides TruncatedValue TruncatedValue = (λ t. refl, λ e. refl)
fault_Decides InvalidPointer InvalidPointer = (λ t. refl, λ e. refl)
fault_Decides UnexpectedNext UnexpectedNext = (λ t. refl, λ e. refl)
fault_Decides TooManyDirectories TooManyDirectories = (λ t. refl, λ e. refl)
fault_Decides TooManyEntries TooManyEntries = (λ t. refl, λ e. refl)
fault_Decides _ _ = (λ t. absurd (false≢true t), λ e. cc)

-- two readings that pass the test are the same
pub read_same : (a b : Read) → read_eq a b ≡ true → a ≡ b
read_same a b e =
    let p = and_parts (beq a.little b.little)
    (pointwise field_eq a.fields b.fields && pointwise fault_eq a.faults b.faults) e in
    let q = and_parts (pointwise field_eq a.fields b.fields) (pointwise fault_eq a.faults b.faults)
    p.1 in
    same a.little b.little a.fields b.fields a.faults b.faults
    ((booleans_Decides a.little b.little).0 p.0)
    ((slice_eq-Decides field_Decides a.fields b.fields (pointwise field_eq a.fields b.fields)
    refl).0 q.0)
    ((slice_eq-Decides fault_Decides a.faults b.faults (pointwise fault_eq a.faults b.faults)
    refl).0 q.1)
  where
    same : (l m : Bool) (fs gs : List Field) (xs ys : List Fault) → l ≡ m → fs ≡ gs → xs ≡ ys
        → ◌≡◌ {A = Read} (record { little = l; fields = fs; faults = xs })
        (record { little = m; fields = gs; faults = ys })
    same l m fs gs xs ys e f g = rw (e, f, g) refl

-- ---- what the data are read as

reads_by : (x : Result Order Fault) (bytes : List ℕ) (read : Read) → header bytes ≡ x
    → reading_by x bytes ≡ Ok read
    → (ReadAs bytes read.fields read.faults) × (read.fields ≡ fields_of (trace bytes))
    × (read.faults ≡ faults_of (trace bytes))
reads_by (Err fault) bytes read h e = absurd (err_ok e)
  where
    err_ok : ◌≡◌ {A = Result Read Fault} (Err fault) (Ok read) → ⊥
    err_ok e = cc
reads_by (Ok order) bytes read h e =
    let nodes = ordered_trace (number_of order) bytes in
    let t = trace_right bytes order h in
    let b = ok_same
    (record { little = is_little order; fields = fields_of nodes; faults = faults_of nodes })
    e in
    let f : fields_of nodes ≡ read.fields = ap (λ (r : Read). r.fields) b in
    let g : faults_of nodes ≡ read.faults = ap (λ (r : Read). r.faults) b in (
      λ lenient. raw_right lenient None bytes order h
          ∙ ap (λ (r : Read). answer_of lenient (record { fields = r.fields; faults = r.faults }))
          b,
      sym f ∙ ap fields_of (sym t),
      sym g ∙ ap faults_of (sym t),
    )
  where
    ok_same : (a : Read) → ◌≡◌ {A = Result Read Fault} (Ok a) (Ok read) → a ≡ read
    ok_same a e = cc

-- the fields and faults that were read are those of the data, and both modes answer by them
pub reads_are : (bytes : List ℕ) (read : Read) → reading bytes ≡ Ok read
    → (ReadAs bytes read.fields read.faults) × (read.fields ≡ fields_of (trace bytes))
    × (read.faults ≡ faults_of (trace bytes))
unfolding reading
reads_are bytes read e = reads_by (header bytes) bytes read refl e

-- what passed the test is read so
pub reads_so : (bytes : List ℕ) (read : Read) → reads_as bytes read ≡ true → reading bytes ≡ Ok read
reads_so bytes read e = by_reading (reading bytes) e
  where
    by_reading : (x : Result Read Fault)
        → (elim x [ Ok found ↦ read_eq found read | Err fault ↦ false ]) ≡ true → x ≡ Ok read
    by_reading (Ok found) e = ap (λ r. Ok r) (read_same found read e)
    by_reading (Err fault) e = absurd (false≢true e)
