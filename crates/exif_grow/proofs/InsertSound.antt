-- What an answered putting of a field into a directory promises.
use Rattle.std.proofs.Common.{◌≡◌, ◌≤◌, ◌<◌, ◌+◌, ◌*◌, ℕ, Bool, true, false, if◌then◌else◌, List, [], ◌∷◌, length, ◌⊎◌, inl, inr, replicate, All, Some, Result, Ok, Err, refl, sym, ap, subst, ◌∙◌, arith}
use Rattle.std.specs.Prelude.{◌^◌, ◌-◌, ◌&&◌, not, nat_lt}
use Rattle.std.specs.Bool.{beq}
use Rattle.std.specs.Cmp.Lexicographic.{pointwise}
use Rattle.std.specs.List.{filter}
use Rattle.std.proofs.lemmas.Bool.{false≢true, and_parts}
use Rattle.std.proofs.lemmas.Bool.Decides.{nat_tests}
use Rattle.std.proofs.lemmas.List.{length-replicate}
use Rattle.std.proofs.lemmas.Slice.Eq.{slice_eq-Decides}
use Rattle.exif_base.specs.Orders.{number_of, order_named}
use Rattle.exif_base.specs.declared.endian.Order.{Order}
use Rattle.exif_types.specs.FieldEq.{field_eq, field_Decides}
use Rattle.exif_types.specs.Lookup.{is_named}
use Rattle.exif_types.specs.ValueTypes.{count_of}
use Rattle.exif_types.specs.declared.tag.Tag.{Tag}
use Rattle.exif_text.specs.declared.ifd.In.{In}
use Rattle.exif_types.specs.declared.value.Value.{Value}
use Rattle.exif_types.specs.declared.field.Field.{Field}
use Rattle.exif_tiff.specs.Trace.{fields_of, trace}
use Rattle.exif_tiff.specs.declared.fault.Fault.{Fault}
use Rattle.exif_layout.specs.Encoding.{encode}
use Rattle.exif_layout.specs.Offsets.{even}
use Rattle.exif_layout.specs.Refused.{is_unknown}
use Rattle.exif_layout.proofs.Images.Standing.{length_spelled}
use Rattle.exif_edit_base.specs.Causes.{full_directory, no_directory, of_data, or_cause, offset_named, shared, too_long, unknown_type, unless, ◌>>=◌}
use Rattle.exif_edit_base.specs.Patches.{FitsIn, inside}
use Rattle.exif_edit_base.specs.Readings.{Read, fault_eq, reading}
use Rattle.exif_edit_base.proofs.CauseSteps.{bound, data_read, ok_same, option_told, passed, tested}
use Rattle.exif_edit_base.proofs.FindSteps.{header_named}
use Rattle.exif_edit_base.proofs.PatchSteps.{Misses, outside_offset}
use Rattle.exif_edit.specs.Promises.{ReadAs}
use Rattle.exif_edit_base.specs.Rereading.{without_entry_offsets}
use Rattle.exif_edit.specs.Removing.{without_named}
use Rattle.exif_edit.specs.Setting.{names_offsets}
use Rattle.exif_edit.proofs.ReadSound.{fault_Decides, reads_are}
use Rattle.exif_grow.specs.Growing.{Added, grown}
use Rattle.exif_grow.specs.Directories.{directory_named, leading_in}
use Rattle.exif_grow.specs.Inserting.{field_added, first_with, insert_answer, directory_fault, inserted, inserted_in, is_only, is_with, new_field, read_without_offsets, reads_with, slot_patch, span_of, value_offset}
use Rattle.exif_grow.specs.Promises.{IsInserted}
use Rattle.exif_grow.specs.declared.directories.Directory.{Directory}
use Rattle.exif_grow.proofs.GrowthSteps.{both_patches, grown_outside, header_small}

-- ---- the only field of a name

only_one : (tag : Tag) (k : In) (field : Field) (seen : Bool) (fs : List Field)
    → is_only tag k field seen fs ≡ true
    → filter (is_named tag k) fs ≡ (if seen then [] else field ∷ [])
only_one tag k field seen [] h = rw h refl
only_one tag k field seen (f ∷ fs) h =
    by_test (is_named tag k f) refl (only_one tag k field true fs) (only_one tag k field seen fs) h
  where
    by_same : (m : Bool)
        → (is_only tag k field true fs ≡ true → filter (is_named tag k) fs ≡ [])
        → (not m && (field_eq f field && is_only tag k field true fs)) ≡ true
        → ◌≡◌ {A = List Field} (f ∷ filter (is_named tag k) fs) (if m then [] else field ∷ [])
    by_same true rest e = absurd (false≢true e)
    by_same false rest e =
        let p = and_parts (field_eq f field) (is_only tag k field true fs) e in
        let s : f ≡ field = (field_Decides f field).0 p.0 in
        let r : filter (is_named tag k) fs ≡ [] = rest p.1 in
        rw (s, r) refl

    by_test : (b : Bool) → is_named tag k f ≡ b
        → (is_only tag k field true fs ≡ true → filter (is_named tag k) fs ≡ [])
        → (is_only tag k field seen fs ≡ true
        → filter (is_named tag k) fs ≡ (if seen then [] else field ∷ []))
        → (if b then not seen && (field_eq f field && is_only tag k field true fs)
        else is_only tag k field seen fs) ≡ true
        → ◌≡◌ {A = List Field}
        (if b then f ∷ filter (is_named tag k) fs else filter (is_named tag k) fs)
        (if seen then [] else field ∷ [])
    by_test true e rest same h = by_same seen rest h
    by_test false e rest same h = same h

-- ---- what was read

-- what was read with one more field
pub record IsWith (tag : Tag) (k : In) (field : Field) (wanted found : Read) : Type 0 where
  pub only : filter (is_named tag k) found.fields ≡ field ∷ []
  pub others : without_entry_offsets (without_named tag k found.fields) ≡ wanted.fields
  pub faults : found.faults ≡ wanted.faults

is_with_so : (tag : Tag) (k : In) (field : Field) (wanted found : Read)
    → is_with tag k field wanted found ≡ true → IsWith tag k field wanted found
is_with_so tag k field wanted found h =
    let a = and_parts (is_only tag k field false found.fields)
    (beq found.little wanted.little
    && (pointwise field_eq (without_entry_offsets (without_named tag k found.fields)) wanted.fields
    && pointwise fault_eq found.faults wanted.faults)) h in
    let b = and_parts (beq found.little wanted.little)
    (pointwise field_eq (without_entry_offsets (without_named tag k found.fields)) wanted.fields
    && pointwise fault_eq found.faults wanted.faults) a.1 in
    let d = and_parts
    (pointwise field_eq (without_entry_offsets (without_named tag k found.fields)) wanted.fields)
    (pointwise fault_eq found.faults wanted.faults) b.1 in
    record {
      only = only_one tag k field false found.fields a.0;
      others = (slice_eq-Decides field_Decides (without_entry_offsets (without_named tag k found.fields))
          wanted.fields
          (pointwise field_eq (without_entry_offsets (without_named tag k found.fields)) wanted.fields) refl).0
          d.0;
      faults = (slice_eq-Decides fault_Decides found.faults wanted.faults
          (pointwise fault_eq found.faults wanted.faults) refl).0 d.1;
    }

-- what passed the test
pub record ReadsWith (tag : Tag) (k : In) (field : Field) (wanted : Read) (bytes : List ℕ) : Type 0
  where
    pub found : Read
    pub reads : reading bytes ≡ Ok found
    pub is : IsWith tag k field wanted found

pub reads_with_so : (tag : Tag) (k : In) (field : Field) (wanted : Read) (bytes : List ℕ)
    → reads_with tag k field wanted bytes ≡ true → ReadsWith tag k field wanted bytes
reads_with_so tag k field wanted bytes h = by_reading (reading bytes) refl h
  where
    by_reading : (x : Result Read Fault) → reading bytes ≡ x
        → (elim x as (λ r. Bool) [ Ok found ↦ is_with tag k field wanted found | Err fault ↦ false ])
        ≡ true
        → ReadsWith tag k field wanted bytes
    by_reading (Ok found) e h =
        record { found = found; reads = e; is = is_with_so tag k field wanted found h }
    by_reading (Err fault) e h = absurd (false≢true h)

pub first_parts : (tag : Tag) (k : In) (field : Field) (wanted : Read) (bytes : List ℕ) (a b c : Added)
    → first_with tag k field wanted bytes a b ≡ Ok c
    → (reads_with tag k field wanted (grown c bytes) ≡ true) × ((a ≡ c) ⊎ (b ≡ c))
first_parts tag k field wanted bytes a b c h =
    by_test (reads_with tag k field wanted (grown a bytes)) refl h
  where
    by_test : (t : Bool) → reads_with tag k field wanted (grown a bytes) ≡ t
        → (if t then Ok a
        else (if reads_with tag k field wanted (grown b bytes) then Ok b else Err shared)) ≡ Ok c
        → (reads_with tag k field wanted (grown c bytes) ≡ true) × ((a ≡ c) ⊎ (b ≡ c))
    by_test true e h =
        let s = ok_same a c h in
        (subst (λ x. reads_with tag k field wanted (grown x bytes) ≡ true) s e, inl s)
    by_test false e h =
        let p = tested (reads_with tag k field wanted (grown b bytes)) b c shared h in (
          subst (λ x. reads_with tag k field wanted (grown x bytes) ≡ true) p.1 p.0,
          inr p.1,
        )

-- ---- an edit that fits

-- a directory and what points at it lie in data of a length
pub record FitsThere (d : Directory) (n : ℕ) : Type 0 where
  pub slot : d.slot + 4 ≤ n
  pub whole : d.offset + 12 * d.count + 6 ≤ n

pub fits_there : (order : Order) (value : Value) (d : Directory) (offset n : ℕ)
    → directory_fault order value d offset n ≡ Ok tt → FitsThere d n
fits_there order value d offset n h =
    let a = passed (nat_lt n (d.slot + 4)) shared
    (λ t. unless (nat_lt n (d.offset + 12 * d.count + 6)) shared >>= λ u. unless
    (nat_lt 65534 d.count) full_directory >>= λ v. unless
    (nat_lt (2 ^ 32 - 1) (count_of value)) too_long >>= λ w. unless
    (nat_lt (2 ^ 32 - 1) (offset + length (encode order value))) too_long) tt h in
    let b = passed (nat_lt n (d.offset + 12 * d.count + 6)) shared
    (λ u. unless (nat_lt 65534 d.count) full_directory >>= λ v. unless
    (nat_lt (2 ^ 32 - 1) (count_of value)) too_long >>= λ w. unless
    (nat_lt (2 ^ 32 - 1) (offset + length (encode order value))) too_long) tt a.1 in
    let p = a.0 in
    let q = b.0 in
    record { slot = grind (arith, nat_tests); whole = grind (arith, nat_tests) }

added_fits : (clear : Bool) (order : Order) (n : ℕ) (value : Value) (bytes : List ℕ)
    (d : Directory)
    → FitsThere d (length bytes)
    → All (FitsIn (length bytes)) (field_added clear order n value bytes d).patches
added_fits clear order n value bytes d f =
    let l = length_spelled order 4 (even (length bytes)) in
    let z : length (replicate {A = ℕ} (12 * d.count + 6) 0) ≡ 12 * d.count + 6 =
    length-replicate (12 * d.count + 6) 0 in
    let slot = f.slot in
    let whole = f.whole in
    both_patches (FitsIn (length bytes)) clear (span_of d) (slot_patch order d (length bytes))
    (omega arith) (omega arith)

added_misses : (clear : Bool) (order : Order) (n : ℕ) (value : Value) (bytes : List ℕ)
    (d : Directory) (i : ℕ)
    → inside i (record { offset = d.slot; len = 4 }) ≡ false → inside i (span_of d) ≡ false
    → All (Misses i) (field_added clear order n value bytes d).patches
added_misses clear order n value bytes d i a b =
    let l = length_spelled order 4 (even (length bytes)) in
    let z : length (replicate {A = ℕ} (12 * d.count + 6) 0) ≡ 12 * d.count + 6 =
    length-replicate (12 * d.count + 6) 0 in
    let x = subst (λ m. (i < d.offset) ⊎ (d.offset + m ≤ i)) (sym z)
    (outside_offset i (span_of d) b) in
    let y = subst (λ m. (i < d.slot) ⊎ (d.slot + m ≤ i)) (sym l)
    (outside_offset i (record { offset = d.slot; len = 4 }) a) in
    both_patches (Misses i) clear (span_of d) (slot_patch order d (length bytes)) x y

-- ---- the whole

-- what is added where an answer is given
pub record WasInserted (bytes : List ℕ) (tag : Tag) (k : In) (value : Value) (a : Added) : Type 0
  where
    pub read : Read
    pub reads : reading bytes ≡ Ok read
    pub at : Directory
    pub there : directory_named (number_of (order_named read.little)) bytes tag.0 k.0 ≡ Some at
    pub fits : FitsThere at (length bytes)
    pub clear : Bool
    pub is : field_added clear (order_named read.little) tag.1 value bytes at ≡ a
    pub found : Read
    pub reads_new : reading (grown a bytes) ≡ Ok found
    pub with : IsWith tag k
        (new_field (order_named read.little) tag k value at
        (leading_in (number_of (order_named read.little)) bytes tag.1 at) (length bytes))
        (read_without_offsets read) found

was_inserted_in : (bytes : List ℕ) (a : Added) (tag : Tag) (k : In) (value : Value) (read : Read)
    (d : Directory)
    → reading bytes ≡ Ok read
    → directory_named (number_of (order_named read.little)) bytes tag.0 k.0 ≡ Some d
    → inserted_in tag k value bytes read d ≡ Ok a → WasInserted bytes tag k value a
unfolding inserted_in
was_inserted_in bytes a tag k value read d r t h =
    let order = order_named read.little in
    let field = new_field order tag k value d (leading_in (number_of order) bytes tag.1 d)
    (length bytes) in
    let first = field_added true order tag.1 value bytes d in
    let second = field_added false order tag.1 value bytes d in
    let b = bound (directory_fault order value d (value_offset d (length bytes)) (length bytes))
    (λ u. first_with tag k field (read_without_offsets read) bytes first second) a h in
    let p = first_parts tag k field (read_without_offsets read) bytes first second a b.2 in
    let f = fits_there order value d (value_offset d (length bytes)) (length bytes) b.1 in
    let w = reads_with_so tag k field (read_without_offsets read) (grown a bytes) p.0 in
    elim p.1 as (λ x. WasInserted bytes tag k value a) [
      | inl s ↦ record {
        read = read;
        reads = r;
        at = d;
        there = t;
        fits = f;
        clear = true;
        is = s;
        found = w.found;
        reads_new = w.reads;
        with = w.is;
      }
      | inr s ↦ record {
        read = read;
        reads = r;
        at = d;
        there = t;
        fits = f;
        clear = false;
        is = s;
        found = w.found;
        reads_new = w.reads;
        with = w.is;
      }
    ]

was_inserted_there : (bytes : List ℕ) (a : Added) (tag : Tag) (k : In) (value : Value)
    → inserted bytes tag k value ≡ Ok a → WasInserted bytes tag k value a
unfolding inserted
was_inserted_there bytes a tag k value h =
    let b = bound (of_data (reading bytes))
    (λ read. or_cause (directory_named (number_of (order_named read.little)) bytes tag.0 k.0)
    no_directory >>= λ d. inserted_in tag k value bytes read d) a h in
    let d = bound
    (or_cause (directory_named (number_of (order_named b.0.little)) bytes tag.0 k.0) no_directory)
    (λ d. inserted_in tag k value bytes b.0 d) a b.2 in
    was_inserted_in bytes a tag k value b.0 d.0 (data_read (reading bytes) b.0 b.1)
    (option_told (directory_named (number_of (order_named b.0.little)) bytes tag.0 k.0) no_directory
    d.0 d.1) d.2

-- what an answer adds puts the field there, and the data are read with it then
pub was_inserted : (bytes : List ℕ) (a : Added) (tag : Tag) (k : In) (value : Value)
    → insert_answer bytes tag k value ≡ Ok a → WasInserted bytes tag k value a
unfolding insert_answer
was_inserted bytes a tag k value h =
    let x = passed (names_offsets tag) offset_named
    (λ u. unless (is_unknown value) unknown_type >>= λ v. inserted bytes tag k value) a h in
    let y = passed (is_unknown value) unknown_type (λ v. inserted bytes tag k value) a x.1 in
    was_inserted_there bytes a tag k value y.1

-- the patches lie in the data
pub insert_fits : (bytes : List ℕ) (a : Added) (tag : Tag) (k : In) (value : Value)
    → insert_answer bytes tag k value ≡ Ok a → All (FitsIn (length bytes)) a.patches
insert_fits bytes a tag k value h =
    let w = was_inserted bytes a tag k value h in
    subst (λ x. All (FitsIn (length bytes)) x.patches) w.is
    (added_fits w.clear (order_named w.read.little) tag.1 value bytes w.at w.fits)

-- with what is added one more field is read, and all else is as it was
pub insert_sound : (old : List ℕ) (a : Added) (tag : Tag) (k : In) (value : Value)
    → insert_answer old tag k value ≡ Ok a → IsInserted old tag k value (grown a old)
insert_sound old a tag k value h =
    let w = was_inserted old a tag k value h in
    let order = order_named w.read.little in
    let fit = insert_fits old a tag k value h in
    let r = reads_are old w.read w.reads in
    let s = reads_are (grown a old) w.found w.reads_new in
    record {
      order = order;
      header = header_named old w.read w.reads;
      at = w.at;
      found = w.there;
      reads =
          subst (λ xs. ReadAs (grown a old) (fields_of (trace (grown a old))) xs)
          (w.with.faults ∙ r.2)
          (subst (λ xs. ReadAs (grown a old) xs w.found.faults) s.1 s.0);
      others = ap (λ xs. without_entry_offsets (without_named tag k xs)) (sym s.1) ∙ (w.with.others ∙ ap without_entry_offsets r.1);
      only = ap (filter (is_named tag k)) (sym s.1) ∙ w.with.only;
      small = header_small (grown a old) (order_named w.found.little)
          (header_named (grown a old) w.found w.reads_new);
      outside = λ i x y z. grown_outside a old i fit x
          (subst (λ v. All (Misses i) v.patches) w.is
          (added_misses w.clear order tag.1 value old w.at i y z));
    }
