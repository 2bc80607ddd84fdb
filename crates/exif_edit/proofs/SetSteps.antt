-- The steps of setting a value.
use Rattle.std.proofs.Common.{◌≡◌, ◌≤◌, ◌<◌, ◌+◌, max, ℕ, true, false, List, length, Ok, Err, refl, sym, ap, ◌∙◌, arith}
use Rattle.std.specs.Prelude.{nat_lt, ◌^◌, ◌-◌}
use Rattle.std.proofs.lemmas.Bool.Decides.{nat_tests}
use Rattle.exif_base.specs.Orders.{number_of, order_named}
use Rattle.exif_base.specs.declared.endian.Order.{Order}
use Rattle.exif_text.specs.declared.ifd.In.{In}
use Rattle.exif_types.specs.ValueTypes.{count_of}
use Rattle.exif_types.specs.declared.tag.Tag.{Tag}
use Rattle.exif_types.specs.declared.value.Value.{Value}
use Rattle.exif_types.specs.declared.field.Field.{Field}
use Rattle.exif_layout.specs.Encoding.{encode, moved_to}
use Rattle.exif_layout.specs.Refused.{is_unknown}
use Rattle.exif_edit_base.specs.Causes.{Cause, offset_named, shared, too_long, unknown_type}
use Rattle.exif_edit_base.specs.Finding.{find_answer, replaced}
use Rattle.exif_edit_base.specs.Readings.{Read}
use Rattle.exif_edit_base.specs.declared.patch.Patch.{Patch}
use Rattle.exif_edit_base.specs.declared.patch.Span.{Span}
use Rattle.exif_edit_base.specs.Spans.{value_space}
use Rattle.exif_edit.specs.Setting.{answer_in, checked, checked_patches, expected, names_offsets, set_patches, set_offset, value_answer, value_patches}

-- ---- one edit

-- a value is refused as shared where its entry does not lie in the data
pub edit_outside : (order : Order) (value : Value) (e : ℕ) (bytes : List ℕ) → length bytes < e + 12
    → value_answer order value e bytes ≡ Err shared
unfolding value_answer
edit_outside order value e bytes l =
    let t : nat_lt (length bytes) (e + 12) ≡ true = grind (arith, nat_tests) in rw t refl

edit_inside : (order : Order) (value : Value) (e : ℕ) (bytes : List ℕ) (s : Span)
    → e + 12 ≤ length bytes
    → s ≡ value_space (number_of order) bytes e
    → value_answer order value e bytes ≡ answer_in order value e s (length bytes)
unfolding value_answer
edit_inside order value e bytes s l w =
    let t : nat_lt (length bytes) (e + 12) ≡ false = grind (arith, nat_tests) in
    rw t (ap (λ x. answer_in order value e x (length bytes)) (sym w))

-- a value is refused as shared where its old space does not lie in the data
pub edit_far : (order : Order) (value : Value) (e : ℕ) (bytes : List ℕ) (s : Span)
    → e + 12 ≤ length bytes
    → s ≡ value_space (number_of order) bytes e → length bytes < s.offset + s.len
    → value_answer order value e bytes ≡ Err shared
edit_far order value e bytes s l w f =
    let t : nat_lt (length bytes) (s.offset + s.len) ≡ true = grind (arith, nat_tests) in
    edit_inside order value e bytes s l w ∙ rw t refl

-- a value of more than 2^32 - 1 items is too long
pub edit_many : (order : Order) (value : Value) (e : ℕ) (bytes : List ℕ) (s : Span)
    → e + 12 ≤ length bytes
    → s ≡ value_space (number_of order) bytes e → s.offset + s.len ≤ length bytes
    → 4294967295 < count_of value → value_answer order value e bytes ≡ Err too_long
edit_many order value e bytes s l w f m =
    let t : nat_lt (length bytes) (s.offset + s.len) ≡ false = grind (arith, nat_tests) in
    let v : nat_lt (2 ^ 32 - 1) (count_of value) ≡ true = grind (arith, nat_tests) in
    edit_inside order value e bytes s l w ∙ rw (t, v) refl

-- a value of more bytes than its old space, and more than four, is too long
pub edit_long : (order : Order) (value : Value) (e : ℕ) (bytes : List ℕ) (s : Span)
    → e + 12 ≤ length bytes
    → s ≡ value_space (number_of order) bytes e → s.offset + s.len ≤ length bytes
    → count_of value ≤ 4294967295 → max 4 s.len < length (encode order value)
    → value_answer order value e bytes ≡ Err too_long
edit_long order value e bytes s l w f m g =
    let t : nat_lt (length bytes) (s.offset + s.len) ≡ false = grind (arith, nat_tests) in
    let v : nat_lt (2 ^ 32 - 1) (count_of value) ≡ false = grind (arith, nat_tests) in
    let u : nat_lt (max 4 s.len) (length (encode order value)) ≡ true = grind (arith, nat_tests) in
    edit_inside order value e bytes s l w ∙ rw (t, v, u) refl

-- a value that fits an entry and a space in the data is answered with its patches
pub edit_fits : (order : Order) (value : Value) (e : ℕ) (bytes : List ℕ) (ps : List Patch)
    (s : Span)
    → e + 12 ≤ length bytes → s ≡ value_space (number_of order) bytes e
    → s.offset + s.len ≤ length bytes → count_of value ≤ 4294967295
    → length (encode order value) ≤ max 4 s.len → ps ≡ value_patches order value e s
    → value_answer order value e bytes ≡ Ok ps
edit_fits order value e bytes ps s l w f m g d =
    let t : nat_lt (length bytes) (s.offset + s.len) ≡ false = grind (arith, nat_tests) in
    let v : nat_lt (2 ^ 32 - 1) (count_of value) ≡ false = grind (arith, nat_tests) in
    let u : nat_lt (max 4 s.len) (length (encode order value)) ≡ false = grind (arith, nat_tests) in
    edit_inside order value e bytes s l w ∙ rw (t, v, u) (ap (λ x. Ok x) (sym d))

-- ---- the whole

-- a field whose values say where other bytes are is not set
pub set_named : (bytes : List ℕ) (tag : Tag) (k : In) (value : Value) → names_offsets tag ≡ true
    → set_patches bytes tag k value ≡ Err offset_named
unfolding set_patches
set_named bytes tag k value h = rw h refl

-- a value of an unknown type is not set
pub set_unknown : (bytes : List ℕ) (tag : Tag) (k : In) (value : Value) → names_offsets tag ≡ false
    → is_unknown value ≡ true → set_patches bytes tag k value ≡ Err unknown_type
unfolding set_patches
set_unknown bytes tag k value h u = rw (h, u) refl

-- any other value is set by the patches that pass the check
pub set_known : (bytes : List ℕ) (tag : Tag) (k : In) (value : Value) → names_offsets tag ≡ false
    → is_unknown value ≡ false → checked_patches bytes tag k value ≡ set_patches bytes tag k value
unfolding set_patches
set_known bytes tag k value h u = rw (h, u) refl

-- where the field is not found, its value is not set, for the same cause
pub set_find : (bytes : List ℕ) (tag : Tag) (k : In) (value : Value) (c : Cause)
    → find_answer bytes tag k ≡ Err c → checked_patches bytes tag k value ≡ Err c
unfolding checked_patches
set_find bytes tag k value c h = rw h refl

-- where the value is refused at the entry that was found, it is not set, for the same cause
pub set_edit : (bytes : List ℕ) (tag : Tag) (k : In) (value : Value) (read : Read) (e : ℕ)
    (order : Order) (c : Cause)
    → find_answer bytes tag k ≡ Ok (read, e) → order ≡ order_named read.little
    → value_answer order value e bytes ≡ Err c → checked_patches bytes tag k value ≡ Err c
unfolding checked_patches
set_edit bytes tag k value read e order c h o w =
    let g : value_answer (order_named read.little) value e bytes ≡ Err c = rw o at w in
    rw (h, g) refl

set_checked : (bytes : List ℕ) (ps : List Patch) (tag : Tag) (k : In) (value : Value) (read : Read)
    (e : ℕ)
    → find_answer bytes tag k ≡ Ok (read, e)
    → value_answer (order_named read.little) value e bytes ≡ Ok ps
    → checked_patches bytes tag k value ≡ checked (expected tag k value e bytes read) bytes ps
unfolding checked_patches
set_checked bytes ps tag k value read e h g = rw (h, g) refl

expected_is : (bytes : List ℕ) (tag : Tag) (k : In) (value moved : Value) (read : Read)
    (e offset : ℕ) (fs : List Field)
    → fs ≡ replaced tag k moved read.fields → moved ≡ moved_to offset value
    → offset ≡ set_offset (value_space (number_of (order_named read.little)) bytes e).offset e
    (encode (order_named read.little) value)
    → ◌≡◌ {A = Read} (record { little = read.little; fields = fs; faults = read.faults })
    (expected tag k value e bytes read)
expected_is bytes tag k value moved read e offset fs f m p = rw (f, m, p) refl

-- the patches are the answer if the data are read with the value then
pub set_wanted : (bytes : List ℕ) (ps : List Patch) (tag : Tag) (k : In) (value moved : Value)
    (read : Read) (e offset : ℕ) (fs : List Field) (order : Order)
    → find_answer bytes tag k ≡ Ok (read, e) → order ≡ order_named read.little
    → value_answer order value e bytes ≡ Ok ps
    → fs ≡ replaced tag k moved read.fields → moved ≡ moved_to offset value
    → offset ≡ set_offset (value_space (number_of order) bytes e).offset e (encode order value)
    → checked (record { little = read.little; fields = fs; faults = read.faults }) bytes ps
    ≡ checked_patches bytes tag k value
set_wanted bytes ps tag k value moved read e offset fs order h o g f m p =
    let g1 : value_answer (order_named read.little) value e bytes ≡ Ok ps = rw o at g in
    let p1 : offset ≡ set_offset (value_space (number_of (order_named read.little)) bytes e).offset e
    (encode (order_named read.little) value) = rw o at p in
    ap (λ r. checked r bytes ps) (expected_is bytes tag k value moved read e offset fs f m p1)
    ∙ sym (set_checked bytes ps tag k value read e h g1)
