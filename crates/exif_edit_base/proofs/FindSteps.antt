-- Finding the last field of a name and the offset of its entry.
use Rattle.std.proofs.Common.{◌≡◌, ◌<◌, ◌+◌, ℕ, zero, suc, Bool, true, false, List, [], ◌∷◌, length, map, drop, All, set, Option, Some, None, Result, Ok, Err, refl, sym, ap, subst, ◌∙◌, arith}
use Rattle.std.specs.Prelude.{slice_get, ◌||◌}
use Rattle.std.specs.List.{list_any}
use Rattle.std.proofs.lemmas.List.{length-map}
use Rattle.std.proofs.lemmas.List.Elements.{All-head, All-tail}
use Rattle.std.proofs.lemmas.List.Folds.{list_any_none}
use Rattle.exif_base.specs.Orders.{number_of, order_named}
use Rattle.exif_base.specs.declared.endian.Order.{Order}
use Rattle.exif_base.specs.declared.endian.Order.TheVariants.{Big, Little}
use Rattle.exif_types.specs.Lookup.{is_named}
use Rattle.exif_types.specs.declared.value.Value.{Value}
use Rattle.exif_types.specs.declared.tag.Tag.{Tag}
use Rattle.exif_text.specs.declared.ifd.In.{In}
use Rattle.exif_types.specs.declared.field.Field.{Field}
use Rattle.exif_tiff.specs.Trace.{Node, entry_of, header, ordered_trace, trace, fields_of, faults_of, located_of}
use Rattle.exif_tiff.specs.declared.offset.EntryOffset.{EntryOffset}
use Rattle.exif_tiff.specs.declared.fault.Fault.{Fault}
use Rattle.exif_edit_base.specs.Causes.{Cause, no_field, of_data}
use Rattle.exif_edit_base.specs.Finding.{IsLastAt, find_answer, last_located, replaced, with_value}
use Rattle.exif_edit_base.specs.Locations.{Located, located}
use Rattle.exif_edit_base.specs.Readings.{Read, is_little, reading}
use Rattle.exif_edit_base.proofs.LawsLocated.{ordered_fields}
use Rattle.exif_edit_base.proofs.ReadSteps.{reading_by}

-- the field of a located one, without its offsets
abbrev pub field_of : Located → Field
field_of l = l.field

-- ---- the last field of a name

-- whether some field has a name is the same with and without the offsets of the fields
pub any_map : (tag : Tag) (k : In) (ls : List Located)
    → list_any (λ (m : Located). is_named tag k m.field) ls
    ≡ list_any (is_named tag k) (map field_of ls)
any_map tag k [] = refl
any_map tag k (l ∷ ls) = ap (λ b. is_named tag k l.field || b) (any_map tag k ls)

-- one test or another holds where the second does
pub or_true : (b : Bool) → (b || true) ≡ true
or_true true = refl
or_true false = refl

abbrev Unnamed : Tag → In → Field → Type 0
Unnamed tag k f = is_named tag k f ≡ false

none_located : (tag : Tag) (k : In) (ls : List Located) → All (Unnamed tag k) (map field_of ls)
    → last_located tag k ls ≡ None
none_located tag k [] h = refl
none_located tag k (l ∷ ls) h =
    let a = All-head (Unnamed tag k) l.field (map field_of ls) h in
    let b = list_any_none (is_named tag k) (map field_of ls)
    (All-tail (Unnamed tag k) l.field (map field_of ls) h) in
    let d = any_map tag k ls ∙ b in
    rw (d, a) refl

-- a field that is the last of its name is found, with its entry
pub last_found : (tag : Tag) (k : In) (ls : List Located) (i : ℕ)
    → IsLastAt tag k (map field_of ls) i
    → (l : Located) × (last_located tag k ls ≡ Some l)
    × (slice_get (map entry_of ls) i ≡ Some (entry_of l))
    × (list_any (is_named tag k) (map field_of ls) ≡ true)
last_found tag k [] i h = absurd h.0
last_found tag k (l ∷ ls) zero h =
    let none : list_any (λ (m : Located). is_named tag k m.field) ls ≡ false =
    any_map tag k ls ∙ list_any_none (is_named tag k) (map field_of ls) h.1 in
    (l, rw (none, h.0) refl, refl, rw h.0 refl)
last_found tag k (l ∷ ls) (suc i) h =
    let e : suc i + 1 ≡ suc (i + 1) = omega arith in
    let t : All (Unnamed tag k) (drop (i + 1) (map field_of ls)) = rw e at h.1 in
    let p = last_found tag k ls i (h.0, t) in
    let any : list_any (λ (m : Located). is_named tag k m.field) ls ≡ true =
    any_map tag k ls ∙ p.3 in
    (p.0, rw any p.1, p.2, rw p.3 (or_true (is_named tag k l.field)))

-- the fields with the value at that index set
pub replaced_set : (tag : Tag) (k : In) (v : Value) (fs : List Field) (i : ℕ) (f : Field)
    → IsLastAt tag k fs i → slice_get fs i ≡ Some f
    → (list_any (is_named tag k) fs ≡ true)
    × (replaced tag k v fs ≡ set fs i (record { tag = f.tag; ifd_num = f.ifd_num; value = v }))
replaced_set tag k v [] i f h e = absurd h.0
replaced_set tag k v (g ∷ gs) zero f h e =
    let none : list_any (is_named tag k) gs ≡ false = list_any_none (is_named tag k) gs h.1 in
    let same : g ≡ f = some_same e in
    (rw h.0 refl, rw (none, h.0) (ap (λ (x : Field). with_value v x ∷ gs) same))
  where
    some_same : ◌≡◌ {A = Option Field} (Some g) (Some f) → g ≡ f
    some_same e = cc
replaced_set tag k v (g ∷ gs) (suc i) f h e =
    let n : suc i + 1 ≡ suc (i + 1) = omega arith in
    let t : All (Unnamed tag k) (drop (i + 1) gs) = rw n at h.1 in
    let p = replaced_set tag k v gs i f (h.0, t) e in
    (rw p.0 (or_true (is_named tag k g)), rw p.0 (ap (λ fs. g ∷ fs) p.1))

-- the index of the last field of a name is below the number of fields
pub index_below : (tag : Tag) (k : In) (fs : List Field) (i : ℕ) → IsLastAt tag k fs i
    → i < length fs
index_below tag k [] i h = absurd h.0
index_below tag k (f ∷ fs) zero h = omega arith
index_below tag k (f ∷ fs) (suc i) h =
    let e : suc i + 1 ≡ suc (i + 1) = omega arith in
    let t : All (Unnamed tag k) (drop (i + 1) fs) = rw e at h.1 in
    let p = index_below tag k fs i (h.0, t) in
    omega arith

-- ---- with what was read

fields_by : (x : Result Order Fault) (bytes : List ℕ) (read : Read) → reading_by x bytes ≡ Ok read
    → map field_of (located_of (elim x as (λ r. List Node)
    [ Ok order ↦ ordered_trace (number_of order) bytes | Err fault ↦ [] ]))
    ≡ read.fields
fields_by (Err fault) bytes read e = absurd (err_ok e)
  where
    err_ok : ◌≡◌ {A = Result Read Fault} (Err fault) (Ok read) → ⊥
    err_ok e = cc
fields_by (Ok order) bytes read e =
    ordered_fields (number_of order) bytes
    ∙ ap (λ (r : Read). r.fields)
    (ok_same (record {
      little = is_little order;
      fields = fields_of (ordered_trace (number_of order) bytes);
      faults =
          faults_of (ordered_trace (number_of order) bytes);
    }) e)
  where
    ok_same : (a : Read) → ◌≡◌ {A = Result Read Fault} (Ok a) (Ok read) → a ≡ read
    ok_same a e = cc

-- the located fields without their offsets are those that were read
pub fields_read : (bytes : List ℕ) (read : Read) → reading bytes ≡ Ok read
    → map field_of (located bytes) ≡ read.fields
unfolding reading located trace
fields_read bytes read e = fields_by (header bytes) bytes read e

-- where the data are refused, so is the search of a field
pub find_refused : (bytes : List ℕ) (tag : Tag) (k : In) (c : Cause)
    → of_data (reading bytes) ≡ Err c → find_answer bytes tag k ≡ Err c
unfolding find_answer
find_refused bytes tag k c h = rw h refl

-- where no field that was read has the name, the search finds no such field
pub find_missing : (bytes : List ℕ) (tag : Tag) (k : In) (read : Read) → reading bytes ≡ Ok read
    → All (λ f. is_named tag k f ≡ false) read.fields → find_answer bytes tag k ≡ Err no_field
unfolding find_answer
find_missing bytes tag k read e h =
    let n = none_located tag k (located bytes)
    (subst (λ fs. All (Unnamed tag k) fs) (sym (fields_read bytes read e)) h) in
    rw (e, n) refl

-- the last field of a name is found with the entry at its index among the offsets
pub find_found : (bytes : List ℕ) (tag : Tag) (k : In) (read : Read) (i : ℕ) (offset : EntryOffset)
    (entries : List EntryOffset) → reading bytes ≡ Ok read → IsLastAt tag k read.fields i
    → entries ≡ map entry_of (located bytes) → slice_get entries i ≡ Some offset
    → find_answer bytes tag k ≡ Ok (read, offset.entry)
unfolding find_answer
find_found bytes tag k read i offset entries e h w g =
    let p = last_found tag k (located bytes) i
    (subst (λ fs. IsLastAt tag k fs i) (sym (fields_read bytes read e)) h) in
    let same = some_same (entry_of p.0) (sym p.2 ∙ (ap (λ es. slice_get es i) (sym w) ∙ g)) in
    let n : p.0.entry ≡ offset.entry = ap (λ (x : EntryOffset). x.entry) same in
    let last = p.1 in
    rw (e, last, n) refl
  where
    some_same : (x : EntryOffset) → ◌≡◌ {A = Option EntryOffset} (Some x) (Some offset) → x ≡ offset
    some_same x e = cc

-- the index of the last field of a name is below the number of offsets, too
pub entry_below : (bytes : List ℕ) (tag : Tag) (k : In) (read : Read) (i : ℕ)
    (entries : List EntryOffset) → reading bytes ≡ Ok read → IsLastAt tag k read.fields i
    → entries ≡ map entry_of (located bytes) → i < length entries
entry_below bytes tag k read i entries e h w =
    let a = index_below tag k read.fields i h in
    let b = ap (λ fs. length fs) (sym (fields_read bytes read e)) in
    let c = length-map (located bytes) field_of in
    let d = length-map (located bytes) entry_of in
    let f = ap (λ es. length es) w in
    omega arith

header_by : (x : Result Order Fault) (bytes : List ℕ) (read : Read) → reading_by x bytes ≡ Ok read
    → x ≡ Ok (order_named read.little)
header_by (Err fault) bytes read e = absurd (err_ok e)
  where
    err_ok : ◌≡◌ {A = Result Read Fault} (Err fault) (Ok read) → ⊥
    err_ok e = cc
header_by (Ok order) bytes read e =
    let b = ok_same
    (record {
      little = is_little order;
      fields = fields_of
          (ordered_trace (number_of order) bytes);
      faults =
          faults_of (ordered_trace (number_of order) bytes);
    }) e in
    ap (λ o. Ok o) (named order ∙ ap (λ (r : Read). order_named r.little) b)
  where
    ok_same : (a : Read) → ◌≡◌ {A = Result Read Fault} (Ok a) (Ok read) → a ≡ read
    ok_same a e = cc

    named : (o : Order) → o ≡ order_named (is_little o)
    named Big = refl
    named Little = refl

-- data that were read have a good header with the byte order that was read
pub header_named : (bytes : List ℕ) (read : Read) → reading bytes ≡ Ok read
    → header bytes ≡ Ok (order_named read.little)
unfolding reading
header_named bytes read e = header_by (header bytes) bytes read e
