-- The steps of appending a value.
use Rattle.std.proofs.Common.{◌≡◌, ◌<◌, ◌+◌, ℕ, true, false, List, length, Ok, Err, refl, sym, ap, ◌∙◌, arith}
use Rattle.std.specs.Prelude.{nat_lt}
use Rattle.std.proofs.lemmas.Bool.Decides.{nat_tests}
use Rattle.exif_base.specs.Orders.{number_of, order_named}
use Rattle.exif_base.specs.declared.endian.Order.{Order}
use Rattle.exif_text.specs.declared.ifd.In.{In}
use Rattle.exif_types.specs.declared.tag.Tag.{Tag}
use Rattle.exif_types.specs.declared.value.Value.{Value}
use Rattle.exif_types.specs.declared.field.Field.{Field}
use Rattle.exif_layout.specs.Encoding.{encode, moved_to}
use Rattle.exif_layout.specs.Offsets.{even}
use Rattle.exif_layout.specs.Refused.{is_unknown}
use Rattle.exif_edit_base.specs.Causes.{Cause, offset_named, shared, unknown_type, ◌>>=◌}
use Rattle.exif_edit_base.specs.Finding.{find_answer, replaced}
use Rattle.exif_edit_base.specs.Readings.{Read}
use Rattle.exif_edit_base.specs.declared.patch.Span.{Span}
use Rattle.exif_edit_base.specs.Spans.{value_space}
use Rattle.exif_edit.specs.Setting.{names_offsets, set_offset}
use Rattle.exif_grow.specs.Appending.{append_answer, append_fault, appended, appended_at, expected_appended, value_added}
use Rattle.exif_grow.specs.Growing.{Added, first_read}

-- ---- at an entry

-- a value is refused as shared where its entry does not lie in the data
pub append_outside : (tag : Tag) (k : In) (value : Value) (e : ℕ) (bytes : List ℕ) (read : Read)
    → length bytes < e + 12 → appended_at tag k value e bytes read ≡ Err shared
unfolding appended_at
append_outside tag k value e bytes read l =
    let t : nat_lt (length bytes) (e + 12) ≡ true = grind (arith, nat_tests) in rw t refl

-- a value that can't be appended is refused
pub append_refused : (tag : Tag) (k : In) (value : Value) (e : ℕ) (bytes : List ℕ) (read : Read)
    (order : Order) (span : Span) (c : Cause)
    → order ≡ order_named read.little → span ≡ value_space (number_of order) bytes e
    → append_fault order value e span (length bytes) ≡ Err c
    → appended_at tag k value e bytes read ≡ Err c
unfolding appended_at
append_refused tag k value e bytes read order span c o r h =
    let g : append_fault (order_named read.little) value e
    (value_space (number_of (order_named read.little)) bytes e) (length bytes) ≡ Err c =
    rw o at (rw (r) at h) in
    rw g refl

expected_is : (tag : Tag) (k : In) (value moved : Value) (e : ℕ) (bytes : List ℕ) (read : Read)
    (offset : ℕ) (fs : List Field)
    → fs ≡ replaced tag k moved read.fields → moved ≡ moved_to offset value
    → offset ≡ set_offset (even (length bytes)) e (encode (order_named read.little) value)
    → ◌≡◌ {A = Read} (record { little = read.little; fields = fs; faults = read.faults })
    (expected_appended tag k value e bytes read)
expected_is tag k value moved e bytes read offset fs f m p = rw (f, m, p) refl

-- any other is appended by the first of two growths that is read with it
pub append_passed : (tag : Tag) (k : In) (value moved : Value) (e : ℕ) (bytes : List ℕ)
    (read : Read) (order : Order) (span : Span) (offset : ℕ) (fs : List Field) (a b : Added)
    → order ≡ order_named read.little → span ≡ value_space (number_of order) bytes e
    → append_fault order value e span (length bytes) ≡ Ok tt
    → a ≡ value_added true order value e span (length bytes)
    → b ≡ value_added false order value e span (length bytes)
    → fs ≡ replaced tag k moved read.fields → moved ≡ moved_to offset value
    → offset ≡ set_offset (even (length bytes)) e (encode order value)
    → first_read (record { little = read.little; fields = fs; faults = read.faults }) bytes a b
    ≡ appended_at tag k value e bytes read
unfolding appended_at
append_passed tag k value moved e bytes read order span offset fs a b o r h x y f m p =
    let n = length bytes in
    let order' = order_named read.little in
    let span' = value_space (number_of order') bytes e in
    let first = value_added true order' value e span' n in
    let second = value_added false order' value e span' n in
    let wanted = expected_appended tag k value e bytes read in
    let p1 : offset ≡ set_offset (even n) e (encode order' value) =
    p ∙ ap (λ w. set_offset (even n) e (encode w value)) o in
    let g : append_fault order' value e span' n ≡ Ok tt =
    sym (ap (λ y. append_fault order value e y n) r
    ∙ ap (λ w. append_fault w value e (value_space (number_of w) bytes e) n) o) ∙ h in
    let x1 : a ≡ first =
    x ∙ (ap (λ y. value_added true order value e y n) r
    ∙ ap (λ w. value_added true w value e (value_space (number_of w) bytes e) n) o) in
    let y1 : b ≡ second =
    y ∙ (ap (λ y. value_added false order value e y n) r
    ∙ ap (λ w. value_added false w value e (value_space (number_of w) bytes e) n) o) in
    ap (λ w. first_read w bytes a b)
    (expected_is tag k value moved e bytes read offset fs f m p1)
    ∙ (ap (λ z. first_read wanted bytes z b) x1
    ∙ (ap (λ z. first_read wanted bytes first z) y1
    ∙ sym (ap (λ z. z >>= λ u. first_read wanted bytes first second) g)))

-- ---- the whole

-- a field whose values say where other bytes stand is not appended
pub append_named : (bytes : List ℕ) (tag : Tag) (k : In) (value : Value) → names_offsets tag ≡ true
    → append_answer bytes tag k value ≡ Err offset_named
unfolding append_answer
append_named bytes tag k value h = rw h refl

-- a value of an unknown type is not appended
pub append_unknown : (bytes : List ℕ) (tag : Tag) (k : In) (value : Value)
    → names_offsets tag ≡ false
    → is_unknown value ≡ true → append_answer bytes tag k value ≡ Err unknown_type
unfolding append_answer
append_unknown bytes tag k value h u = rw (h, u) refl

-- any other is where it is found
pub append_known : (bytes : List ℕ) (tag : Tag) (k : In) (value : Value)
    → names_offsets tag ≡ false
    → is_unknown value ≡ false → append_answer bytes tag k value ≡ appended bytes tag k value
unfolding append_answer
append_known bytes tag k value h u = rw (h, u) refl

-- where the field is not found, its value is not appended, for the same cause
pub append_missing : (bytes : List ℕ) (tag : Tag) (k : In) (value : Value) (c : Cause)
    → find_answer bytes tag k ≡ Err c → appended bytes tag k value ≡ Err c
unfolding appended
append_missing bytes tag k value c h = rw h refl

-- where it is found, it is appended in the place of that entry's
pub append_found : (bytes : List ℕ) (tag : Tag) (k : In) (value : Value) (read : Read) (e : ℕ)
    → find_answer bytes tag k ≡ Ok (read, e)
    → appended bytes tag k value ≡ appended_at tag k value e bytes read
unfolding appended
append_found bytes tag k value read e h = rw h refl
