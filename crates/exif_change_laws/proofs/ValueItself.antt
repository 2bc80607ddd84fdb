-- An entry whose texts are set again as they are.
use Rattle.std.proofs.Common.{◌≡◌, ◌∙◌, ◌<◌, ◌≤◌, ◌+◌, ◌-◌, ◌*◌, ◌==◌, max, ℕ, true, false, Bool, List, [], ◌∷◌, ◌++◌, length, take, drop, replicate, Option, Some, None, if◌then◌else◌, refl, sym, ap, subst, arith, append-nil, length-drop}
use Rattle.std.specs.Prelude.{nat_le}
use Rattle.std.specs.List.{flat_map}
use Rattle.std.proofs.lemmas.Bool.Decides.{nat_tests}
use Rattle.std.proofs.lemmas.List.{drop-drop, length-take-le}
use Rattle.std.proofs.Math.Seq.{take-add}
use Rattle.exif_base.specs.Bytes.{bytes_at, number_at}
use Rattle.exif_base.specs.Orders.{number_of}
use Rattle.exif_base.specs.declared.endian.Order.{Order}
use Rattle.exif_text.specs.FieldTypes.{known_length, type_of}
use Rattle.exif_text.specs.FieldTypes as types
use Rattle.exif_text.specs.declared.field_type.FieldType.{FieldType}
use Rattle.exif_text.specs.declared.field_type.FieldType.TheVariants as field_type
use Rattle.exif_types.specs.Texts.{ended, texts}
use Rattle.exif_types.specs.declared.value.Value.{Value}
use Rattle.exif_types.specs.declared.value.Value.TheVariants.{Ascii, Unknown}
use Rattle.exif_tiff.specs.Decode.{decode, decode_as}
use Rattle.exif_tiff.specs.Trace.{entry_value}
use Rattle.exif_tiff.specs.Visits.{AreBytes}
use Rattle.exif_layout.specs.Encoding.{spelled}
use Rattle.exif_edit_base.specs.Patches.{padded, patched, put_at}
use Rattle.exif_edit_base.specs.Spans.{value_space}
use Rattle.exif_edit_base.specs.declared.patch.Patch.{Patch}
use Rattle.exif_edit_base.specs.declared.patch.Span.{Span}
use Rattle.exif_edit.specs.Setting.{entry_bytes, is_small, space_bytes, value_patches}
use Rattle.exif_edit.proofs.SetSound.{Fits}
use Rattle.exif_change_laws.proofs.SetItself.{four_again, put_same, texts_again, two_again}

-- ---- the type of texts

code : Option FieldType → ℕ
code None = 0
code (Some ty) = types.number_of ty

other_type : (n m : ℕ) (ty : FieldType) (rest : Option FieldType) → (Some ty ≡ Some field_type.Ascii → ⊥)
    → (if n == m then Some ty else rest) ≡ Some field_type.Ascii → rest ≡ Some field_type.Ascii
other_type n m ty rest not e = by_test (n == m) e
  where
    by_test : (b : Bool) → (if b then Some ty else rest) ≡ Some field_type.Ascii → rest ≡ Some field_type.Ascii
    by_test true e = absurd (not e)
    by_test false e = e

type_ascii : (n : ℕ) → type_of n ≡ Some field_type.Ascii → n ≡ 2
type_ascii n h = by_test (n == 2) refl (other_type n 1 field_type.Byte _ (λ e. cc) h)
  where
    none : ◌≡◌ {A = Option FieldType} None (Some field_type.Ascii) → ⊥
    none e = cc

    by_test : (b : Bool) → (n == 2) ≡ b
        → (if b then Some field_type.Ascii else
        (if n == 3 then Some field_type.Short else
        (if n == 4 then Some field_type.Long else
        (if n == 5 then Some field_type.Rational else
        (if n == 6 then Some field_type.SByte else
        (if n == 7 then Some field_type.Undefined else
        (if n == 8 then Some field_type.SShort else
        (if n == 9 then Some field_type.SLong else
        (if n == 10 then Some field_type.SRational else
        (if n == 11 then Some field_type.Float else
        (if n == 12 then Some field_type.Double else None))))))))))) ≡ Some field_type.Ascii
        → n ≡ 2
    by_test true t e = grind (arith, nat_tests, t)
    by_test false t e =
        absurd (none (other_type n 12 field_type.Double _ (λ e. cc) (other_type n 11 field_type.Float _ (λ e. cc)
        (other_type n 10 field_type.SRational _ (λ e. cc) (other_type n 9 field_type.SLong _ (λ e. cc)
        (other_type n 8 field_type.SShort _ (λ e. cc) (other_type n 7 field_type.Undefined _ (λ e. cc)
        (other_type n 6 field_type.SByte _ (λ e. cc) (other_type n 5 field_type.Rational _ (λ e. cc)
        (other_type n 4 field_type.Long _ (λ e. cc) (other_type n 3 field_type.Short _ (λ e. cc) e)))))))))))

-- what is decoded as texts is of their type
record DecodesTexts (x : Option FieldType) (count : ℕ) (bytes : List ℕ) (offset : ℕ) (ts : List (List ℕ)) : Type 0 where
  type : x ≡ Some field_type.Ascii
  are : texts (bytes_at count bytes offset) ≡ ts

ascii_same : (a b : List (List ℕ)) → Ascii a ≡ Ascii b → a ≡ b
ascii_same a b e = cc

decodes_texts : (order : Order) (type count : ℕ) (bytes : List ℕ) (offset : ℕ) (ts : List (List ℕ)) → decode (number_of order) type count bytes offset ≡ Ascii ts
    → DecodesTexts (type_of type) count bytes offset ts
decodes_texts order type count bytes offset ts e = by_type (type_of type) e
  where
    by_type : (x : Option FieldType) → (elim x as (λ _. Value) [ Some t ↦ decode_as (number_of order) t count bytes offset | None ↦ Unknown type count offset ]) ≡ Ascii ts
        → DecodesTexts x count bytes offset ts
    by_type (Some field_type.Ascii) e = record { type = refl; are = ascii_same (texts (bytes_at count bytes offset)) ts e }
    by_type (Some field_type.Byte) e = absurd (cc)
    by_type (Some field_type.Short) e = absurd (cc)
    by_type (Some field_type.Long) e = absurd (cc)
    by_type (Some field_type.Rational) e = absurd (cc)
    by_type (Some field_type.SByte) e = absurd (cc)
    by_type (Some field_type.Undefined) e = absurd (cc)
    by_type (Some field_type.SShort) e = absurd (cc)
    by_type (Some field_type.SLong) e = absurd (cc)
    by_type (Some field_type.SRational) e = absurd (cc)
    by_type (Some field_type.Float) e = absurd (cc)
    by_type (Some field_type.Double) e = absurd (cc)
    by_type None e = absurd (cc)

-- ---- the patches

abbrev space_by : Bool → ℕ → ℕ → Span
space_by b offset size = if b then record { offset = 0; len = 0 } else record { offset = offset; len = size }

-- a value put over the entry that has it changes nothing
pub record Itself (order : Order) (e : ℕ) (bytes : List ℕ) (value : Value) : Type 0 where
  pub ps : List Patch
  pub fits : Fits order value e bytes ps
  pub made : patched ps bytes ≡ bytes

ten_bytes : (xs : List ℕ) (e : ℕ) → bytes_at 2 xs (e + 2) ++ (bytes_at 4 xs (e + 4) ++ bytes_at 4 xs (e + 8)) ≡ bytes_at 10 xs (e + 2)
ten_bytes xs e =
    let four : e + 2 + 2 ≡ e + 4 = omega arith in
    let eight : e + 4 + 4 ≡ e + 8 = omega arith in
    let inner : bytes_at 8 xs (e + 4) ≡ bytes_at 4 xs (e + 4) ++ bytes_at 4 xs (e + 8) =
    take-add 4 4 (drop (e + 4) xs) ∙ ap (λ (ys : List ℕ). bytes_at 4 xs (e + 4) ++ take 4 ys) (drop-drop 4 (e + 4) xs ∙ ap (λ (n : ℕ). drop n xs) eight) in
    let outer : bytes_at 10 xs (e + 2) ≡ bytes_at 2 xs (e + 2) ++ bytes_at 8 xs (e + 4) =
    take-add 2 8 (drop (e + 2) xs) ∙ ap (λ (ys : List ℕ). bytes_at 2 xs (e + 2) ++ take 8 ys) (drop-drop 2 (e + 2) xs ∙ ap (λ (n : ℕ). drop n xs) four) in
    sym (outer ∙ ap (λ (ys : List ℕ). bytes_at 2 xs (e + 2) ++ ys) inner)

module _ (order : Order) (bytes : List ℕ) (e : ℕ) (ts : List (List ℕ)) (are : AreBytes bytes) (whole : e + 12 ≤ length bytes)
    (long : 5 ≤ length (flat_map ended ts)) where
  abbrev type : ℕ
  type = number_at (number_of order) 2 bytes (e + 2)

  abbrev count : ℕ
  count = number_at (number_of order) 4 bytes (e + 4)

  abbrev offset : ℕ
  offset = number_at (number_of order) 4 bytes (e + 8)

  abbrev size : ℕ
  size = known_length (type_of type) * count

  abbrev encoded : List ℕ
  encoded = flat_map ended ts

  -- outside of the entry
  outside : (far : offset + size ≤ length bytes) → (big : nat_le size 4 ≡ false) → (fits : length encoded ≤ max 4 size)
      → DecodesTexts (type_of type) count bytes offset ts → Itself order e bytes (Ascii ts)
  outside far big fits d =
      let two : type ≡ 2 = type_ascii type d.type in
      let more : 4 < size = grind (arith, nat_tests, big) in
      let one : size ≡ 1 * count = ap (λ (t : Option FieldType). known_length t * count) d.type in
      let same : size ≡ count = omega (arith, one) in
      let value : List ℕ = bytes_at count bytes offset in
      let rest = length-drop offset bytes in
      let len : length (bytes_at count bytes offset) ≡ count = length-take-le count (drop offset bytes) (omega (arith, rest, far, same)) in
      let written : flat_map ended (texts (bytes_at count bytes offset)) ≡ encoded = ap (flat_map ended) d.are in
      let few : length (flat_map ended (texts (bytes_at count bytes offset))) ≤ length (bytes_at count bytes offset) =
      let l : length (flat_map ended (texts (bytes_at count bytes offset))) ≡ length encoded = ap (λ (xs : List ℕ). length xs) written in
      omega (arith, l, len, fits, more, same) in
      let is : encoded ≡ bytes_at count bytes offset = sym written ∙ texts_again (bytes_at count bytes offset) few in
      let exact : length encoded ≡ count = ap (λ (xs : List ℕ). length xs) is ∙ len in
      let small : is_small encoded ≡ false = grind (arith, nat_tests, exact, same, more) in
      let some : (size == 0) ≡ false = grind (arith, nat_tests, more) in
      let space : value_space (number_of order) bytes e ≡ record { offset = offset; len = size } =
      ap (λ (b : Bool). if b then record { offset = 0; len = 0 } else record { offset = offset; len = size }) big in
      let none : size - length encoded ≡ 0 = omega (arith, exact, same) in
      let filled : space_bytes size encoded ≡ bytes_at size bytes offset =
      ap (λ (b : Bool). padded size (if b then [] else encoded)) small
      ∙ (ap (λ (n : ℕ). encoded ++ replicate n 0) none ∙ (append-nil encoded ∙ (is ∙ ap (λ (n : ℕ). bytes_at n bytes offset) (sym same)))) in
      let entry : entry_bytes order (Ascii ts) offset encoded ≡ bytes_at 10 bytes (e + 2) =
      ap (λ (b : Bool). spelled order 2 2 ++ (spelled order 4 (length encoded) ++ (if b then padded 4 encoded else spelled order 4 offset))) small
      ∙ (ap (λ (n : ℕ). spelled order 2 n ++ (spelled order 4 (length encoded) ++ spelled order 4 offset)) (sym two)
      ∙ (ap (λ (n : ℕ). spelled order 2 type ++ (spelled order 4 n ++ spelled order 4 offset)) exact
      ∙ (ap (λ (xs : List ℕ). xs ++ (spelled order 4 count ++ spelled order 4 offset)) (two_again order bytes (e + 2) are (omega arith))
      ∙ (ap (λ (xs : List ℕ). bytes_at 2 bytes (e + 2) ++ (xs ++ spelled order 4 offset)) (four_again order bytes (e + 4) are (omega arith))
      ∙ (ap (λ (xs : List ℕ). bytes_at 2 bytes (e + 2) ++ (bytes_at 4 bytes (e + 4) ++ xs)) (four_again order bytes (e + 8) are (omega arith))
      ∙ ten_bytes bytes e))))) in
      let all : patched (value_patches order (Ascii ts) e (record { offset = offset; len = size })) bytes
      ≡ put_at (e + 2) (entry_bytes order (Ascii ts) offset encoded) (put_at offset (space_bytes size encoded) bytes) =
      ap (λ (b : Bool). patched ((if b then [] else record { offset = offset; bytes = space_bytes size encoded } ∷ [])
      ++ record { offset = e + 2; bytes = entry_bytes order (Ascii ts) offset encoded } ∷ []) bytes) some in
      let kept : put_at (e + 2) (entry_bytes order (Ascii ts) offset encoded) (put_at offset (space_bytes size encoded) bytes) ≡ bytes =
      ap (λ (xs : List ℕ). put_at (e + 2) (entry_bytes order (Ascii ts) offset encoded) (put_at offset xs bytes)) filled
      ∙ (ap (put_at (e + 2) (entry_bytes order (Ascii ts) offset encoded)) (put_same offset size bytes far)
      ∙ (ap (λ (xs : List ℕ). put_at (e + 2) xs bytes) entry ∙ put_same (e + 2) 10 bytes (omega arith))) in
      record {
        ps = value_patches order (Ascii ts) e (record { offset = offset; len = size });
        fits = record {
          whole = whole;
          far = subst (λ (s : Span). s.offset + s.len ≤ length bytes) (sym space) far;
          encoded = subst (λ (s : Span). length encoded ≤ max 4 s.len) (sym space) fits;
          is = ap (λ (s : Span). value_patches order (Ascii ts) e s) (sym space);
        };
        made = all ∙ kept;
      }

  -- texts that an entry has and that fit its space
  pub itself : entry_value (number_of order) bytes e ≡ Some (Ascii ts) → length encoded ≤ max 4 (value_space (number_of order) bytes e).len
      → Itself order e bytes (Ascii ts)
  itself h fits = by_size (nat_le size 4) refl h fits
    where
      some_same : (v : Value) → ◌≡◌ {A = Option Value} (Some v) (Some (Ascii ts)) → v ≡ Ascii ts
      some_same v e = cc

      none_some : ◌≡◌ {A = Option Value} None (Some (Ascii ts)) → ⊥
      none_some e = cc

      by_far : (b : Bool) → nat_le size 4 ≡ false → nat_le (offset + size) (length bytes) ≡ b
          → (if b then Some (decode (number_of order) type count bytes offset) else None) ≡ Some (Ascii ts)
          → length encoded ≤ max 4 size → Itself order e bytes (Ascii ts)
      by_far false big far h fits = absurd (none_some h)
      by_far true big far h fits =
          outside (grind (arith, nat_tests, far)) big fits (decodes_texts order type count bytes offset ts (some_same (decode (number_of order) type count bytes offset) h))

      by_size : (b : Bool) → nat_le size 4 ≡ b
          → (if b then Some (decode (number_of order) type count bytes (e + 8)) else
          (if nat_le (offset + size) (length bytes) then Some (decode (number_of order) type count bytes offset) else None)) ≡ Some (Ascii ts)
          → length encoded ≤ max 4 (space_by b offset size).len → Itself order e bytes (Ascii ts)
      by_size true big h fits = absurd (omega (arith, fits, long))
      by_size false big h fits = by_far (nat_le (offset + size) (length bytes)) big refl h fits
