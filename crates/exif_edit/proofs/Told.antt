-- Fields as their entries give them.
use Rattle.std.proofs.Common.{◌≡◌, ◌≤◌, ◌<◌, ◌+◌, ◌*◌, ℕ, Bool, true, false, if◌then◌else◌, List, [], ◌∷◌, length, map, Option, Some, None, Result, Ok, Err, refl, sym, ap, ◌∙◌, arith}
use Rattle.std.specs.Prelude.{nat_le}
use Rattle.std.proofs.lemmas.Bool.Decides.{nat_tests}
use Rattle.exif_base.specs.Bytes.{Reading, bytes_at, number_at}
use Rattle.exif_base.specs.Orders.{number_of}
use Rattle.exif_base.specs.declared.endian.Order.{Order}
use Rattle.exif_tiff.specs.Decode.{decode, decode_as}
use Rattle.exif_text.specs.FieldTypes.{known_length, type_of}
use Rattle.exif_types.specs.declared.field.Field.{Field}
use Rattle.exif_text.specs.declared.field_type.FieldType.{FieldType}
use Rattle.exif_text.specs.declared.field_type.FieldType.TheVariants as field_type
use Rattle.exif_types.specs.declared.value.Value.{Value}
use Rattle.exif_types.specs.declared.value.Value.TheVariants as value
use Rattle.exif_tiff.specs.Trace.{Found, Met, Node, Opens, Visit, header, entry_value, located_of, ordered_trace, trace}
use Rattle.exif_tiff.specs.declared.fault.Fault.{Fault}
use Rattle.exif_edit_base.specs.Locations.{Located, located}
use Rattle.exif_edit_base.proofs.FindSteps.{field_of}
use Rattle.exif_edit_base.proofs.LocatedEntries.{AreSaid, ordered_said}
use Rattle.exif_edit.specs.Promises.{told_by}
use Rattle.exif_edit_base.specs.Rereading.{field_at_entry, value_at_entry, without_entry_offsets}
use Rattle.exif_edit_base.proofs.PutBack.{length-bytes_at}

-- ---- a value of an entry

same_offset : (b : Bool) (xs : List ℕ) (p : ℕ)
    → ◌≡◌ {A = Value} (value.Undefined xs (if b then p else p)) (value.Undefined xs p)
same_offset true xs p = refl
same_offset false xs p = refl

-- a value of a type, if that is known
abbrev valued_as : Reading → Option FieldType → ℕ → ℕ → List ℕ → ℕ → Value
valued_as number o type count bytes offset =
    elim o [ Some t ↦ decode_as number t count bytes offset | None ↦ value.Unknown type count offset ]

-- one that is in the entry
tells_inside : (number : Reading) (o : Option FieldType) (type count : ℕ) (bytes : List ℕ) (e : ℕ)
    → value_at_entry e (valued_as number o type count bytes (e + 8))
    ≡ valued_as number o type count bytes (e + 8)
tells_inside number None type count bytes e = refl
tells_inside number (Some field_type.Byte) type count bytes e = refl
tells_inside number (Some field_type.Ascii) type count bytes e = refl
tells_inside number (Some field_type.Short) type count bytes e = refl
tells_inside number (Some field_type.Long) type count bytes e = refl
tells_inside number (Some field_type.Rational) type count bytes e = refl
tells_inside number (Some field_type.SByte) type count bytes e = refl
tells_inside number (Some field_type.Undefined) type count bytes e =
    same_offset (nat_le (length (bytes_at count bytes (e + 8))) 4) (bytes_at count bytes (e + 8))
    (e + 8)
tells_inside number (Some field_type.SShort) type count bytes e = refl
tells_inside number (Some field_type.SLong) type count bytes e = refl
tells_inside number (Some field_type.SRational) type count bytes e = refl
tells_inside number (Some field_type.Float) type count bytes e = refl
tells_inside number (Some field_type.Double) type count bytes e = refl

far_offset : (count : ℕ) (bytes : List ℕ) (e offset : ℕ) → 4 < 1 * count
    → offset + 1 * count ≤ length bytes
    → ◌≡◌ {A = Value}
    (value.Undefined (bytes_at count bytes offset)
    (if nat_le (length (bytes_at count bytes offset)) 4 then e + 8 else offset))
    (value.Undefined (bytes_at count bytes offset) offset)
far_offset count bytes e offset h k =
    let l = length-bytes_at count offset bytes (omega arith) in
    let t : nat_le (length (bytes_at count bytes offset)) 4 ≡ false = grind (arith, nat_tests) in
    rw t refl

-- one that is outside
tells_outside : (number : Reading) (o : Option FieldType) (type count : ℕ) (bytes : List ℕ)
    (e offset : ℕ) → 4 < known_length o * count → offset + known_length o * count ≤ length bytes
    → value_at_entry e (valued_as number o type count bytes offset)
    ≡ valued_as number o type count bytes offset
tells_outside number None type count bytes e offset a b = absurd (omega arith)
tells_outside number (Some field_type.Byte) type count bytes e offset a b = refl
tells_outside number (Some field_type.Ascii) type count bytes e offset a b = refl
tells_outside number (Some field_type.Short) type count bytes e offset a b = refl
tells_outside number (Some field_type.Long) type count bytes e offset a b = refl
tells_outside number (Some field_type.Rational) type count bytes e offset a b = refl
tells_outside number (Some field_type.SByte) type count bytes e offset a b = refl
tells_outside number (Some field_type.Undefined) type count bytes e offset a b =
    far_offset count bytes e offset a b
tells_outside number (Some field_type.SShort) type count bytes e offset a b = refl
tells_outside number (Some field_type.SLong) type count bytes e offset a b = refl
tells_outside number (Some field_type.SRational) type count bytes e offset a b = refl
tells_outside number (Some field_type.Float) type count bytes e offset a b = refl
tells_outside number (Some field_type.Double) type count bytes e offset a b = refl

tells : (number : Reading) (bytes : List ℕ) (e : ℕ) (v : Value)
    → entry_value number bytes e ≡ Some v → value_at_entry e v ≡ v
tells number bytes e v h = by_size (nat_le size 4) refl h
  where
    type : ℕ
    type = number_at number 2 bytes (e + 2)

    count : ℕ
    count = number_at number 4 bytes (e + 4)

    size : ℕ
    size = known_length (type_of type) * count

    offset : ℕ
    offset = number_at number 4 bytes (e + 8)

    some_same : (x : Value) → ◌≡◌ {A = Option Value} (Some x) (Some v) → x ≡ v
    some_same x p = cc

    by_space : (b : Bool) → nat_le (offset + size) (length bytes) ≡ b → nat_le size 4 ≡ false
        → (if b then Some (decode number type count bytes offset) else None) ≡ Some v
        → value_at_entry e v ≡ v
    by_space true r s p =
        let a : 4 < size = grind (arith, nat_tests) in
        let c : offset + size ≤ length bytes = grind (arith, nat_tests) in
        rw (some_same (decode number type count bytes offset) p) at
        (tells_outside number (type_of type) type count bytes e offset a c)
    by_space false r s p = absurd (none_some p)
      where
        none_some : ◌≡◌ {A = Option Value} None (Some v) → ⊥
        none_some p = cc

    by_size : (b : Bool) → nat_le size 4 ≡ b
        → (if b then Some (decode number type count bytes (e + 8)) else
        (if nat_le (offset + size) (length bytes) then Some (decode number type count bytes offset)
        else None)) ≡ Some v → value_at_entry e v ≡ v
    by_size true s p =
        rw (some_same (decode number type count bytes (e + 8)) p) at
        (tells_inside number (type_of type) type count bytes e)
    by_size false s p = by_space (nat_le (offset + size) (length bytes)) refl s p

-- ---- all that is located

-- each field is as its entry gives it
abbrev pub AllTell : List Located → Type 0
AllTell [] = Unit {0}
AllTell (l ∷ ls) = (field_at_entry l.entry l.field ≡ l.field) × AllTell ls

nodes_tell : (number : Reading) (bytes : List ℕ) (nodes : List Node) → AreSaid number bytes nodes
    → AllTell (located_of nodes)
nodes_tell number bytes [] h = tt
nodes_tell number bytes (Opens d ∷ nodes) h = nodes_tell number bytes nodes h
nodes_tell number bytes (Visit ∷ nodes) h = nodes_tell number bytes nodes h
nodes_tell number bytes (Met fault ∷ nodes) h = nodes_tell number bytes nodes h
nodes_tell number bytes (Found l ∷ nodes) h = (
  ap (λ (v : Value). ◌-with l.field v) (tells number bytes l.entry l.field.value h.0.value),
  nodes_tell number bytes nodes h.1,
)
  where
    ◌-with : Field → Value → Field
    ◌-with f v = record { tag = f.tag; ifd_num = f.ifd_num; value = v }

ordered_tell : (number : Reading) (bytes : List ℕ)
    → AllTell (located_of (ordered_trace number bytes))
ordered_tell number bytes =
    nodes_tell number bytes (ordered_trace number bytes) (ordered_said number bytes)

by_header : (x : Result Order Fault) (bytes : List ℕ)
    → AllTell (located_of (elim x as (λ r. List Node)
    [ Ok order ↦ ordered_trace (number_of order) bytes | Err fault ↦ [] ]))
by_header (Ok order) bytes = ordered_tell (number_of order) bytes
by_header (Err fault) bytes = tt

-- each located field of the data is as its entry gives it
pub located_tells : (bytes : List ℕ) → AllTell (located bytes)
unfolding located trace
located_tells bytes = by_header (header bytes) bytes

-- ---- fields that are alike but for their entries

-- what an entry gives anew
told_twice : (e d : ℕ) (v : Value) → value_at_entry e (value_at_entry d v) ≡ value_at_entry e v
told_twice e d (value.Undefined xs offset) = by_test (nat_le (length xs) 4)
  where
    by_test : (b : Bool)
        → ◌≡◌ {A = Value} (value.Undefined xs (if b then e + 8 else (if b then d + 8 else offset)))
        (value.Undefined xs (if b then e + 8 else offset))
    by_test true = refl
    by_test false = refl
told_twice e d (value.Unknown type count offset) = refl
told_twice e d _ = refl

settle_one : (l : Located) (g : Field) → field_at_entry l.entry l.field ≡ l.field
    → field_at_entry 0 l.field ≡ field_at_entry 0 g → field_at_entry l.entry g ≡ l.field
settle_one l g t u =
    let twice : (f : Field) → field_at_entry l.entry (field_at_entry 0 f) ≡ field_at_entry l.entry f =
    λ f. ap (λ (v : Value). ◌-with f v) (told_twice l.entry 0 f.value) in
    sym (twice g) ∙ (ap (field_at_entry l.entry) (sym u) ∙ (twice l.field ∙ t))
  where
    ◌-with : Field → Value → Field
    ◌-with f v = record { tag = f.tag; ifd_num = f.ifd_num; value = v }

-- fields like the located ones but for their entries are the same once these entries give them
pub settled : (ls : List Located) (gs : List Field) → AllTell ls
    → without_entry_offsets (map field_of ls) ≡ without_entry_offsets gs → told_by ls gs ≡ map field_of ls
settled [] [] h u = refl
settled [] (g ∷ gs) h u = refl
settled (l ∷ ls) [] h u = absurd (cons_nil u)
  where
    cons_nil : ◌≡◌ {A = List Field} (field_at_entry 0 l.field ∷ without_entry_offsets (map field_of ls)) [] → ⊥
    cons_nil u = cc
settled (l ∷ ls) (g ∷ gs) h u =
    let p = heads u in
    let a = settle_one l g h.0 p.0 in
    let b = settled ls gs h.1 p.1 in
    rw (a, b) refl
  where
    heads : ◌≡◌ {A = List Field} (field_at_entry 0 l.field ∷ without_entry_offsets (map field_of ls))
        (field_at_entry 0 g ∷ without_entry_offsets gs)
        → (field_at_entry 0 l.field ≡ field_at_entry 0 g) × (without_entry_offsets (map field_of ls) ≡ without_entry_offsets gs)
    heads u = (cc, cc)
