-- What an answered erasing of a field promises.
use Rattle.std.proofs.Common.{◌≡◌, ◌≤◌, ◌+◌, ◌-◌, ◌*◌, min, ℕ, Bool, true, false, if◌then◌else◌, List, [], ◌∷◌, ◌++◌, length, get_or, map, All, Result, Ok, Err, inl, inr, refl, sym, ap, subst, ◌∙◌, arith}
use Rattle.std.specs.Prelude.{◌&&◌, nat_le}
use Rattle.std.specs.Bool.{beq}
use Rattle.std.specs.Cmp.Lexicographic.{pointwise}
use Rattle.std.specs.List.{flat_map, list_any}
use Rattle.std.proofs.lemmas.Bool.{false≢true, and_parts, or_parts}
use Rattle.std.proofs.lemmas.Bool.Decides.{nat_tests}
use Rattle.std.proofs.lemmas.Slice.Eq.{slice_eq-Decides}
use Rattle.std.proofs.lemmas.List.Elements.{All-nil, All-cons, All-append}
use Rattle.exif_base.specs.Bytes.{Reading}
use Rattle.exif_base.specs.Orders.{number_of, order_named}
use Rattle.exif_base.specs.declared.endian.Order.{Order}
use Rattle.exif_types.specs.FieldEq.{field_eq, field_Decides}
use Rattle.exif_types.specs.declared.field.Field.{Field}
use Rattle.exif_types.specs.declared.tag.Tag.{Tag}
use Rattle.exif_text.specs.declared.ifd.In.{In}
use Rattle.exif_tiff.specs.Trace.{trace, fields_of, faults_of, whole_entries}
use Rattle.exif_tiff.specs.declared.fault.Fault.{Fault}
use Rattle.exif_edit_base.specs.Causes.{Cause, no_field, of_data, offset_named, shared}
use Rattle.exif_edit_base.specs.Patches.{FitsIn, inside, patched, zeros_over}
use Rattle.exif_edit_base.specs.Locations.{located}
use Rattle.exif_edit_base.specs.Readings.{Read, reading}
use Rattle.exif_edit_base.specs.declared.patch.Patch.{Patch}
use Rattle.exif_edit_base.specs.declared.patch.Span.{Span}
use Rattle.exif_edit_base.proofs.CauseSteps.{bound, data_read, passed, tested}
use Rattle.exif_edit_base.proofs.FindSteps.{field_of, header_named}
use Rattle.exif_edit_base.specs.Walked.{entry_of}
use Rattle.exif_edit_base.proofs.PatchSteps.{AllWithin, Misses, length-patched, outside_offset, patched_outside, zeroed_at}
use Rattle.exif_edit.specs.Erasing.{directory_span}
use Rattle.exif_edit.specs.Promises.{IsFieldErased, ReadAs, named_directories, told_by}
use Rattle.exif_edit_base.specs.Rereading.{still_reads, without_entry_offsets}
use Rattle.exif_edit.specs.Removing.{directories_with, directory_patches, directory_without, entries_with, field_patches, named_removals, named_spans, named_values, read_without, removals, removals_from, taken_spans, without_named}
use Rattle.exif_edit.specs.Setting.{names_offsets}
use Rattle.exif_edit_base.proofs.LawsLocated.{located_fields}
use Rattle.exif_edit.proofs.EraseSound.{values_within, within-append, zeros_fit}
use Rattle.exif_edit.proofs.ReadSound.{reads_are}
use Rattle.exif_edit.proofs.RemoveSteps.{directory_length}
use Rattle.exif_edit.proofs.Told.{located_tells, settled}

-- ---- the patches lie in the data

-- what puts a directory without its entries of a tag lies in the data
pub directory_fits : (order : Order) (bytes : List ℕ) (n p : ℕ)
    → All (FitsIn (length bytes)) (directory_patches order bytes n p)
directory_fits order bytes n p =
    by_test (nat_le (p + length (directory_without order bytes n p)) (length bytes)) refl
  where
    q : Patch
    q = record { offset = p; bytes = directory_without order bytes n p }

    by_test : (b : Bool)
        → nat_le (p + length (directory_without order bytes n p)) (length bytes) ≡ b
        → All (FitsIn (length bytes)) (if b then q ∷ [] else [])
    by_test true e = let h : p + length (directory_without order bytes n p) ≤ length bytes =
        grind (arith, nat_tests) in All-cons (FitsIn (length bytes)) q [] h
        (All-nil (FitsIn (length bytes)))
    by_test false e = All-nil (FitsIn (length bytes))

directories_fit : (order : Order) (bytes : List ℕ) (n : ℕ) (ps : List ℕ)
    → All (FitsIn (length bytes)) (flat_map (directory_patches order bytes n) ps)
directories_fit order bytes n [] = All-nil (FitsIn (length bytes))
directories_fit order bytes n (p ∷ ps) =
    All-append (FitsIn (length bytes)) (directory_patches order bytes n p)
    (flat_map (directory_patches order bytes n) ps) (directory_fits order bytes n p)
    (directories_fit order bytes n ps)

named_within : (number : Reading) (bytes : List ℕ) (n : ℕ) (ps : List ℕ)
    → AllWithin (length bytes) (named_values number bytes n ps)
named_within number bytes n [] = tt
named_within number bytes n (p ∷ ps) =
    within-append (length bytes) (taken_spans number bytes n p) (named_values number bytes n ps)
    (values_within number bytes (entries_with number bytes n p))
    (named_within number bytes n ps)

-- all that takes the entries of a tag out of directories lies in the data
pub removals_fit : (order : Order) (bytes : List ℕ) (n : ℕ) (ps : List ℕ)
    → All (FitsIn (length bytes)) (removals order bytes n ps)
removals_fit order bytes n ps =
    All-append (FitsIn (length bytes)) (flat_map (directory_patches order bytes n) ps)
    (map zeros_over (named_values (number_of order) bytes n ps))
    (directories_fit order bytes n ps)
    (zeros_fit (length bytes) (named_values (number_of order) bytes n ps)
    (named_within (number_of order) bytes n ps))

-- ---- which bytes change

any-append : (i : ℕ) (xs ys : List Span) → list_any (inside i) (xs ++ ys) ≡ false
    → (list_any (inside i) xs ≡ false) × (list_any (inside i) ys ≡ false)
any-append i [] ys h = (refl, h)
any-append i (x ∷ xs) ys h =
    let p = or_parts (inside i x) (list_any (inside i) (xs ++ ys)) h in
    let q = any-append i xs ys p.1 in
    (rw p.0 q.0, q.1)

-- what puts a directory without its entries of a tag touches no byte outside of it
pub directory_misses : (order : Order) (bytes : List ℕ) (n p i : ℕ)
    → inside i (directory_span (number_of order) bytes p) ≡ false
    → All (Misses i) (directory_patches order bytes n p)
directory_misses order bytes n p i h =
    by_test (nat_le (p + length (directory_without order bytes n p)) (length bytes)) refl
  where
    q : Patch
    q = record { offset = p; bytes = directory_without order bytes n p }

    by_test : (b : Bool)
        → nat_le (p + length (directory_without order bytes n p)) (length bytes) ≡ b
        → All (Misses i) (if b then q ∷ [] else [])
    by_test true e =
        let l : p + length (directory_without order bytes n p) ≤ length bytes =
        grind (arith, nat_tests) in
        let t : nat_le p (length bytes) ≡ true = grind (arith, nat_tests) in
        let m = directory_length order bytes n p in
        let s : inside i
        (record {
          offset = p;
          len = min (2 + 12 * whole_entries (number_of order) bytes p + 4)
              (length bytes - p);
        }) ≡ false = rw t at h in
        let o : Misses i q =
        elim (outside_offset i
        (record {
          offset = p;
          len = min (2 + 12 * whole_entries (number_of order) bytes p + 4)
              (length bytes - p);
        }) s) as (λ x. Misses i q) [
          | inl a ↦ inl a
          | inr a ↦ inr (omega arith)
        ] in
        All-cons (Misses i) q [] o (All-nil (Misses i))
    by_test false e = All-nil (Misses i)

directories_miss : (order : Order) (bytes : List ℕ) (n : ℕ) (ps : List ℕ) (i : ℕ)
    → list_any (inside i) (map (directory_span (number_of order) bytes) ps) ≡ false
    → All (Misses i) (flat_map (directory_patches order bytes n) ps)
directories_miss order bytes n [] i h = All-nil (Misses i)
directories_miss order bytes n (p ∷ ps) i h =
    let q = or_parts (inside i (directory_span (number_of order) bytes p))
    (list_any (inside i) (map (directory_span (number_of order) bytes) ps)) h in
    All-append (Misses i) (directory_patches order bytes n p)
    (flat_map (directory_patches order bytes n) ps) (directory_misses order bytes n p i q.0)
    (directories_miss order bytes n ps i q.1)

-- two lists of patches, joined, are put as the first list and then the second
pub patched-append : (ps qs : List Patch) (bytes : List ℕ)
    → patched (ps ++ qs) bytes ≡ patched qs (patched ps bytes)
patched-append [] qs bytes = refl
patched-append (p ∷ ps) qs bytes = patched-append ps qs _

-- each byte: zero in a value, else as the directories make it
pub removed_at : (order : Order) (bytes : List ℕ) (n : ℕ) (ps : List ℕ) (i : ℕ)
    → get_or (patched (removals order bytes n ps) bytes) i 0
    ≡ (if list_any (inside i) (named_values (number_of order) bytes n ps) then 0 else get_or
    (patched (flat_map (directory_patches order bytes n) ps) bytes) i 0)
removed_at order bytes n ps i =
    let front = flat_map (directory_patches order bytes n) ps in
    let spans = named_values (number_of order) bytes n ps in
    let l = length-patched front bytes (directories_fit order bytes n ps) in
    ap (λ xs. get_or xs i 0) (patched-append front (map zeros_over spans) bytes)
    ∙ zeroed_at spans (patched front bytes) i
    (subst (λ x. AllWithin x spans) (sym l) (named_within (number_of order) bytes n ps))

value_zero : (order : Order) (bytes : List ℕ) (n : ℕ) (ps : List ℕ) (i : ℕ)
    → list_any (inside i) (named_values (number_of order) bytes n ps) ≡ true
    → get_or (patched (removals order bytes n ps) bytes) i 0 ≡ 0
value_zero order bytes n ps i h =
    removed_at order bytes n ps i
    ∙ ap (λ b. if b then 0 else get_or
    (patched (flat_map (directory_patches order bytes n) ps) bytes) i 0) h

-- a byte outside of the directories and of the values of the tag is as it was
pub stays_outside : (order : Order) (bytes : List ℕ) (n : ℕ) (ps : List ℕ) (i : ℕ)
    → list_any (inside i) (named_spans (number_of order) bytes n ps) ≡ false
    → get_or (patched (removals order bytes n ps) bytes) i 0 ≡ get_or bytes i 0
stays_outside order bytes n ps i h =
    let front = flat_map (directory_patches order bytes n) ps in
    let q = any-append i (map (directory_span (number_of order) bytes) ps)
    (named_values (number_of order) bytes n ps) h in
    removed_at order bytes n ps i
    ∙ (ap (λ b. if b then 0 else get_or (patched front bytes) i 0) q.1
    ∙ patched_outside front bytes i (directories_fit order bytes n ps)
    (directories_miss order bytes n ps i q.0))

-- ---- the whole

read_by : (x : (Result Read Fault)) (read : Read)
    → (elim x [
      | Ok found ↦ beq found.little read.little
          && (pointwise field_eq (without_entry_offsets found.fields) (without_entry_offsets read.fields)
          && nat_le (length found.faults) (length read.faults))
      | Err fault ↦ false
    ]) ≡ true
    → (found : Read) × (x ≡ Ok found) × (without_entry_offsets found.fields ≡ without_entry_offsets read.fields)
    × (length found.faults ≤ length read.faults)
read_by (Ok found) read e =
    let p = and_parts (beq found.little read.little)
    (pointwise field_eq (without_entry_offsets found.fields) (without_entry_offsets read.fields)
    && nat_le (length found.faults) (length read.faults)) e in
    let q = and_parts (pointwise field_eq (without_entry_offsets found.fields) (without_entry_offsets read.fields))
    (nat_le (length found.faults) (length read.faults)) p.1 in
    let t = q.1 in (
      found,
      refl,
      (slice_eq-Decides field_Decides (without_entry_offsets found.fields) (without_entry_offsets read.fields)
          (pointwise field_eq (without_entry_offsets found.fields) (without_entry_offsets read.fields)) refl).0 q.0,
      grind (arith, nat_tests),
    )
read_by (Err fault) read e = absurd (false≢true e)

-- what answered patches are
pub record WasRemoved (bytes : List ℕ) (tag : Tag) (k : In) (ps : List Patch) : Type 0 where
  pub read : Read
  pub found : Read
  pub reads : reading bytes ≡ Ok read
  pub are : ps ≡ removals (order_named read.little) bytes tag.1
      (directories_with tag k read.fields (map entry_of (located bytes)))
  pub reads_new : reading (patched ps bytes) ≡ Ok found
  pub fields : without_entry_offsets found.fields ≡ without_entry_offsets (without_named tag k read.fields)
  pub fewer : length found.faults ≤ length read.faults

from_offsets : (bytes : List ℕ) (tag : Tag) (k : In) (read : Read) (qs : List ℕ) (ps : List Patch)
    → removals_from tag k read bytes qs ≡ Ok ps
    → (ps ≡ removals (order_named read.little) bytes tag.1 qs)
    × (still_reads (patched ps bytes) (read_without tag k read) ≡ true)
from_offsets bytes tag k read [] ps e = absurd (err_ok e)
  where
    err_ok : ◌≡◌ {A = Result (List Patch) Cause} (Err no_field) (Ok ps) → ⊥
    err_ok e = cc
from_offsets bytes tag k read (q ∷ qs) ps e =
    let rs = removals (order_named read.little) bytes tag.1 (q ∷ qs) in
    let t = tested (still_reads (patched rs bytes) (read_without tag k read)) rs ps shared e in
    (sym t.1, subst (λ xs. still_reads (patched xs bytes) (read_without tag k read) ≡ true) t.1 t.0)

-- answered patches take out the entries of a name, and the other fields are read then
pub was_removed : (bytes : List ℕ) (tag : Tag) (k : In) (ps : List Patch)
    → named_removals bytes tag k ≡ Ok ps → WasRemoved bytes tag k ps
unfolding named_removals
was_removed bytes tag k ps e =
    let a = bound (of_data (reading bytes))
    (λ read. removals_from tag k read bytes
    (directories_with tag k read.fields (map entry_of (located bytes)))) ps e in
    let f = from_offsets bytes tag k a.0
    (directories_with tag k a.0.fields (map entry_of (located bytes))) ps a.2 in
    let c = read_by (reading (patched ps bytes)) (read_without tag k a.0) f.1 in
    record {
      read = a.0;
      found = c.0;
      reads = data_read (reading bytes) a.0 a.1;
      are = f.0;
      reads_new = c.1;
      fields = c.2;
      fewer = c.3;
    }

-- patches that erase a field are those that take the entries of its name out
pub named_of_field : (bytes : List ℕ) (tag : Tag) (k : In) (ps : List Patch)
    → field_patches bytes tag k ≡ Ok ps → named_removals bytes tag k ≡ Ok ps
unfolding field_patches
named_of_field bytes tag k ps e =
    (passed (names_offsets tag) offset_named (λ u. named_removals bytes tag k) ps e).1

-- the patches that take the entries of a name out lie in the data
pub named_fits : (bytes : List ℕ) (tag : Tag) (k : In) (ps : List Patch)
    → named_removals bytes tag k ≡ Ok ps → All (FitsIn (length bytes)) ps
named_fits bytes tag k ps e =
    let w = was_removed bytes tag k ps e in
    subst (λ xs. All (FitsIn (length bytes)) xs) (sym w.are)
    (removals_fit (order_named w.read.little) bytes tag.1
    (directories_with tag k w.read.fields (map entry_of (located bytes))))

-- the patches that erase a field lie in the data
pub field_fits : (bytes : List ℕ) (tag : Tag) (k : In) (ps : List Patch)
    → field_patches bytes tag k ≡ Ok ps → All (FitsIn (length bytes)) ps
field_fits bytes tag k ps e = named_fits bytes tag k ps (named_of_field bytes tag k ps e)

-- the fields that are read are those that are left, as their entries give them
fields_told : (new : List ℕ) (found : Read) (gs : List Field) → reading new ≡ Ok found
    → without_entry_offsets found.fields ≡ without_entry_offsets gs → found.fields ≡ told_by (located new) gs
fields_told new found gs r u =
    let f : found.fields ≡ map field_of (located new) =
    (reads_are new found r).1 ∙ sym (located_fields new) in
    let v : without_entry_offsets (map field_of (located new)) ≡ without_entry_offsets gs = ap without_entry_offsets (sym f) ∙ u in
    f ∙ sym (settled (located new) gs (located_tells new) v)

-- with answered patches the fields of a name are gone, and their values are zeros
pub field_sound : (old : List ℕ) (tag : Tag) (k : In) (ps : List Patch)
    → field_patches old tag k ≡ Ok ps → IsFieldErased old tag k (patched ps old)
field_sound old tag k ps e =
    let w = was_removed old tag k ps (named_of_field old tag k ps e) in
    let order = order_named w.read.little in
    let r = reads_are old w.read w.reads in
    let s = reads_are (patched ps old) w.found w.reads_new in
    let told : w.found.fields
    ≡ told_by (located (patched ps old)) (without_named tag k (fields_of (trace old))) =
    fields_told (patched ps old) w.found (without_named tag k w.read.fields) w.reads_new
    w.fields ∙ ap (λ fs. told_by (located (patched ps old)) (without_named tag k fs)) r.1 in
    let are : ps ≡ removals order old tag.1 (named_directories old tag k) =
    w.are ∙ ap (λ fs. removals order old tag.1
    (directories_with tag k fs (map entry_of (located old)))) r.1 in
    let few : length w.found.faults ≤ length (faults_of (trace old)) =
    subst (λ xs. length w.found.faults ≤ length xs) r.2 w.fewer in
    record {
      order = order;
      header = header_named old w.read w.reads;
      as_long = length-patched ps old (field_fits old tag k ps e);
      faults = w.found.faults;
      reads = subst (λ fs. ReadAs (patched ps old) fs w.found.faults) told s.0;
      fewer = few;
      values = λ i h. ap (λ qs. get_or (patched qs old) i 0) are
          ∙ value_zero order old tag.1 (named_directories old tag k) i h;
      outside = λ i h. ap (λ qs. get_or (patched qs old) i 0) are
          ∙ stays_outside order old tag.1 (named_directories old tag k) i h;
    }
