-- A value that is set over itself changes no byte.
use Rattle.std.proofs.Common.{◌≡◌, ◌∙◌, ◌≤◌, ◌<◌, ◌+◌, ◌-◌, ◌*◌, ◌^◌, ◌==◌, max, ℕ, Bool, true, false, if◌then◌else◌, List, [], ◌∷◌, ◌++◌, length, get_or, take, drop, replicate, Result, Ok, Err, refl, sym, ap, subst, arith}
use Rattle.std.specs.Prelude.{nat_lt}
use Rattle.std.proofs.lemmas.Bool.{false≢true}
use Rattle.std.proofs.lemmas.Bool.Decides.{nat_tests}
use Rattle.std.proofs.lemmas.List.{ext_get_or, get_or_append_left, length-take-le}
use Rattle.exif_base.specs.Bytes.{number_at}
use Rattle.exif_base.specs.Orders.{number_of, order_named}
use Rattle.exif_base.specs.declared.endian.Order.{Order}
use Rattle.exif_text.specs.FieldTypes.{known_length, type_of}
use Rattle.exif_text.specs.declared.ifd.In.{In}
use Rattle.exif_types.specs.ValueTypes.{count_of, type_number}
use Rattle.exif_types.specs.declared.tag.Tag.{Tag}
use Rattle.exif_types.specs.declared.value.Value.{Value}
use Rattle.exif_types.specs.declared.value.Value.TheVariants.{Byte, Ascii, Short, Long, Rational, SByte, Undefined, SShort, SLong, SRational, Float, Double, Unknown}
use Rattle.exif_tiff.specs.declared.fault.Fault.{Fault}
use Rattle.exif_layout.specs.Encoding.{encode, spelled}
use Rattle.exif_layout.specs.Layout.{Stands}
use Rattle.exif_layout.specs.Refused.{is_unknown}
use Rattle.exif_layout.proofs.Images.Standing.{length_spelled, number_read, stands_left, stands_of, stands_right}
use Rattle.exif_layout.proofs.Images.Values.{length-encode}
use Rattle.exif_edit_base.specs.Causes.{offset_named, shared, too_long, unknown_type, unless, ◌>>=◌}
use Rattle.exif_edit_base.specs.Finding.{find_answer}
use Rattle.exif_edit_base.specs.Patches.{padded, patched, put_at}
use Rattle.exif_edit_base.specs.Readings.{Read, reading}
use Rattle.exif_edit_base.specs.Spans.{space_of, value_space}
use Rattle.exif_edit_base.specs.declared.patch.Patch.{Patch}
use Rattle.exif_edit_base.specs.declared.patch.Span.{Span}
use Rattle.exif_edit_base.proofs.CauseSteps.{bound, ok_same, passed}
use Rattle.exif_edit_base.proofs.FindSteps.{header_named}
use Rattle.exif_edit_base.proofs.PatchSteps.{length-put_at, put_before, put_behind, put_on}
use Rattle.exif_edit_base.proofs.ReadSteps.{header_space}
use Rattle.exif_edit.specs.Setting.{answer_in, checked, checked_patches, element_bytes, entry_bytes, expected, is_small, names_offsets, set_answer, set_patches, space_bytes, space_patches, value_answer, value_patches}
use Rattle.exif_edit.proofs.SetSound.{Fits, value_lengths, was_set}
use Rattle.exif_change_laws.specs.Assigned.{KeepsEntry}
use Rattle.exif_change_laws.proofs.SetItself.{put_same}

-- the number of a known type is small
small_type : (v : Value) → is_unknown v ≡ false → type_number v < 256 ^ 2
small_type (Byte xs) h = omega arith
small_type (Ascii xs) h = omega arith
small_type (Short xs) h = omega arith
small_type (Long xs) h = omega arith
small_type (Rational xs) h = omega arith
small_type (SByte xs) h = omega arith
small_type (Undefined xs offset) h = omega arith
small_type (SShort xs) h = omega arith
small_type (SLong xs) h = omega arith
small_type (SRational xs) h = omega arith
small_type (Float xs) h = omega arith
small_type (Double xs) h = omega arith
small_type (Unknown type count offset) h = absurd (false≢true (sym h))

-- ---- one entry

module _ (order : Order) (value : Value) (e : ℕ) (old : List ℕ) (ps : List Patch)
    (f : Fits order value e old ps) (known : is_unknown value ≡ false)
    (few : count_of value < 256 ^ 4) (short : length old < 256 ^ 4) where
  abbrev encoded : List ℕ
  encoded = encode order value

  abbrev space : Span
  space = value_space (number_of order) old e

  abbrev out : List ℕ
  out = patched ps old

  abbrev entry : List ℕ
  entry = entry_bytes order value space.offset encoded

  -- the bytes with what goes into the space
  abbrev roomed : List ℕ
  roomed = patched (space_patches space encoded) old

  out_is : out ≡ put_at (e + 2) entry roomed
  out_is = ap (λ qs. patched qs old) f.is ∙ by_space (space.len == 0)
    where
      by_space : (z : Bool)
          → patched ((if z then [] else record { offset = space.offset; bytes = space_bytes space.len encoded } ∷ []) ++ record { offset = e + 2; bytes = entry } ∷ []) old
          ≡ put_at (e + 2) entry
          (patched (if z then [] else record { offset = space.offset; bytes = space_bytes space.len encoded } ∷ []) old)
      by_space true = refl
      by_space false = refl

  roomed_long : length roomed ≡ length old
  roomed_long = by_space (space.len == 0)
    where
      by_space : (z : Bool)
          → length (patched (if z then [] else record { offset = space.offset; bytes = space_bytes space.len encoded } ∷ []) old) ≡ length old
      by_space true = refl
      by_space false =
          let lens = value_lengths order value space f.encoded in
          let len = lens.0 in
          let far = f.far in
          length-put_at space.offset (space_bytes space.len encoded) old (omega (arith, len, far))

  entry_fits : e + 2 + length entry ≤ length roomed
  entry_fits =
      let whole = f.whole in
      let lens = value_lengths order value space f.encoded in
      let ten = lens.1 in
      let len = roomed_long in
      omega (arith, ten, len, whole)

  out_long : length out ≡ length old
  out_long = ap (λ (xs : List ℕ). length xs) out_is ∙ (length-put_at (e + 2) entry roomed entry_fits ∙ roomed_long)

  entry_stands : Stands out (e + 2) entry
  entry_stands =
      subst (λ xs. Stands xs (e + 2) entry) (sym out_is)
      (stands_of (put_at (e + 2) entry roomed) (take (e + 2) roomed) entry
      (drop (e + 2 + length entry) roomed) (e + 2) refl
      (let fit = entry_fits in length-take-le (e + 2) roomed (omega (arith, fit))))

  type_bytes : List ℕ
  type_bytes = spelled order 2 (type_number value)

  -- the numbers of the entry
  record HasNumbers : Type 0 where
    type : number_at (number_of order) 2 out (e + 2) ≡ type_number value
    count : number_at (number_of order) 4 out (e + 4) ≡ count_of value
    last : Stands out (e + 8) (element_bytes order space.offset encoded)

  numbers : HasNumbers
  numbers =
      let type_bytes : List ℕ = spelled order 2 (type_number value) in
      let count_bytes : List ℕ = spelled order 4 (count_of value) in
      let last : List ℕ = element_bytes order space.offset encoded in
      let tl : length type_bytes ≡ 2 = length_spelled order 2 (type_number value) in
      let cl : length count_bytes ≡ 4 = length_spelled order 4 (count_of value) in
      let s = entry_stands in
      let cs = stands_right out type_bytes (count_bytes ++ last) (e + 2) (e + 4) s (omega (arith, tl)) in
      let ls = stands_right out count_bytes last (e + 4) (e + 8) cs (omega (arith, cl)) in
      record {
        type = number_read order 2 (type_number value) (e + 2) out (small_type value known)
            (stands_left out type_bytes (count_bytes ++ last) (e + 2) s);
        count = number_read order 4 (count_of value) (e + 4) out few
            (stands_left out count_bytes last (e + 4) cs);
        last = ls;
      }

  size_is : known_length (type_of (number_at (number_of order) 2 out (e + 2)))
      * number_at (number_of order) 4 out (e + 4) ≡ length encoded
  size_is =
      ap (λ n. known_length (type_of n) * number_at (number_of order) 4 out (e + 4)) numbers.type
      ∙ (ap (λ n. known_length (type_of (type_number value)) * n) numbers.count
      ∙ sym (length-encode order value known))

  -- the entry put again
  again_small : is_small encoded ≡ true → value_space (number_of order) out e ≡ record { offset = 0; len = 0 }
  again_small small =
      ap (space_of (number_at (number_of order) 4 out (e + 8))) size_is
      ∙ ap (λ (t : Bool). if t then record { offset = 0; len = 0 } else record { offset = number_at (number_of order) 4 out (e + 8); len = length encoded }) small

  small_entry : is_small encoded ≡ true → entry_bytes order value 0 encoded ≡ entry
  small_entry small =
      ap (λ (t : Bool). spelled order 2 (type_number value) ++ (spelled order 4 (count_of value) ++ (if t then padded 4 encoded else spelled order 4 0))) small
      ∙ sym (ap (λ (t : Bool). spelled order 2 (type_number value) ++ (spelled order 4 (count_of value) ++ (if t then padded 4 encoded else spelled order 4 space.offset))) small)

  entry_again : put_at (e + 2) entry out ≡ out
  entry_again =
      ap (λ xs. put_at (e + 2) xs out) (sym entry_stands.there)
      ∙ put_same (e + 2) (length entry) out entry_stands.within

  far_offset : is_small encoded ≡ false → space.offset < 256 ^ 4
  far_offset long =
      let fit = f.encoded in
      let far = f.far in
      let more : 4 < length encoded = grind (arith, nat_tests, long) in
      omega (arith, fit, far, more, short)

  again_long : is_small encoded ≡ false
      → value_space (number_of order) out e ≡ record { offset = space.offset; len = length encoded }
  again_long long =
      let stands : Stands out (e + 8) (spelled order 4 space.offset) =
      subst (λ (t : Bool). Stands out (e + 8) (if t then padded 4 encoded else spelled order 4 space.offset)) long numbers.last in
      ap (space_of (number_at (number_of order) 4 out (e + 8))) size_is
      ∙ (ap (λ (t : Bool). if t then record { offset = 0; len = 0 } else record { offset = number_at (number_of order) 4 out (e + 8); len = length encoded }) long
      ∙ ap (λ n. record { offset = n; len = length encoded })
      (number_read order 4 space.offset (e + 8) out (far_offset long) stands))

  -- the space put again, and the entry
  long_again : is_small encoded ≡ false
      → put_at (e + 2) entry (put_at space.offset (padded (length encoded) encoded) out) ≡ out
  long_again long =
      let fit = f.encoded in
      let far = f.far in
      let len = out_long in
      let rlen = roomed_long in
      let more : 4 < length encoded = grind (arith, nat_tests, long) in
      let within : space.offset + length encoded ≤ length out = omega (arith, fit, far, more, len) in
      let within_pad : space.offset + length (padded (length encoded) encoded) ≤ length out = omega (arith, within, pad_long) in
      let xlen = length-put_at space.offset (padded (length encoded) encoded) out within_pad in
      let efit = entry_fits in
      let xfit : e + 2 + length entry ≤ length (put_at space.offset (padded (length encoded) encoded) out) = omega (arith, efit, xlen, len, rlen) in
      ext_get_or 0 _ _ (length-put_at (e + 2) entry (put_at space.offset (padded (length encoded) encoded) out) xfit ∙ xlen)
      (λ i h. by_entry i within_pad xfit more (nat_lt i (e + 2)) (nat_lt i (e + 2 + length entry)) refl refl)
    where
      no_pad : padded (length encoded) encoded ≡ encoded
      no_pad = zero_pad (length encoded - length encoded) (omega arith)
        where
          none : (xs : List ℕ) → xs ++ [] ≡ xs
          none [] = refl
          none (x ∷ xs) = ap (λ ys. x ∷ ys) (none xs)

          zero_pad : (n : ℕ) → n ≡ 0 → encoded ++ replicate n 0 ≡ encoded
          zero_pad n z = ap (λ k. encoded ++ replicate k 0) z ∙ none encoded

      pad_long : length (padded (length encoded) encoded) ≡ length encoded
      pad_long = ap (λ (xs : List ℕ). length xs) no_pad

      wide : List ℕ
      wide = put_at space.offset (padded (length encoded) encoded) out

      -- outside of the entry the bytes are those of the space
      in_room : (i : ℕ) → 4 < length encoded → space.offset ≤ i → i < space.offset + length encoded
          → get_or roomed i 0 ≡ get_or encoded (i - space.offset) 0
      in_room i more low high = by_space (space.len == 0) refl
        where
          by_space : (z : Bool) → (space.len == 0) ≡ z
              → get_or (patched (if z then [] else record { offset = space.offset; bytes = space_bytes space.len encoded } ∷ []) old) i 0
              ≡ get_or encoded (i - space.offset) 0
          by_space true z =
              let fit = f.encoded in
              let none : space.len ≡ 0 = grind (arith, nat_tests, z) in
              absurd (omega (arith, fit, none, more))
          by_space false z =
              let fit = f.encoded in
              let far = f.far in
              let lens = value_lengths order value space f.encoded in
              let l = lens.0 in
              put_on space.offset (space_bytes space.len encoded) old i (omega (arith, l, far)) low (omega (arith, l, fit, high, more))
              ∙ (ap (λ xs. get_or (padded space.len xs) (i - space.offset) 0) (ap (λ (t : Bool). if t then [] else encoded) long)
              ∙ get_or_append_left encoded (replicate (space.len - length encoded) 0) 0 (i - space.offset) (omega (arith, low, high)))

      outside : (i : ℕ) → 4 < length encoded
          → space.offset + length (padded (length encoded) encoded) ≤ length out
          → get_or out i 0 ≡ get_or roomed i 0 → (a b : Bool) → nat_lt i space.offset ≡ a
          → nat_lt i (space.offset + length encoded) ≡ b → get_or wide i 0 ≡ get_or out i 0
      outside i more w same true b m n =
          put_before space.offset (padded (length encoded) encoded) out i w (grind (arith, nat_tests, m))
      outside i more w same false false m n =
          let high : space.offset + length encoded ≤ i = grind (arith, nat_tests, n) in
          let p = pad_long in
          put_behind space.offset (padded (length encoded) encoded) out i w (omega (arith, high, p))
      outside i more w same false true m n =
          let low : space.offset ≤ i = grind (arith, nat_tests, m) in
          let high : i < space.offset + length encoded = grind (arith, nat_tests, n) in
          let p = pad_long in
          put_on space.offset (padded (length encoded) encoded) out i w low (omega (arith, high, p))
          ∙ (ap (λ xs. get_or xs (i - space.offset) 0) no_pad
          ∙ (sym (in_room i more low high) ∙ sym same))

      by_entry : (i : ℕ) → space.offset + length (padded (length encoded) encoded) ≤ length out
          → e + 2 + length entry ≤ length wide → 4 < length encoded
          → (a b : Bool) → nat_lt i (e + 2) ≡ a → nat_lt i (e + 2 + length entry) ≡ b
          → get_or (put_at (e + 2) entry wide) i 0 ≡ get_or out i 0
      by_entry i w x more true b m n =
          let low : i < e + 2 = grind (arith, nat_tests, m) in
          put_before (e + 2) entry wide i x low
          ∙ outside i more w
          (ap (λ xs. get_or xs i 0) out_is ∙ put_before (e + 2) entry roomed i entry_fits low)
          (nat_lt i space.offset) (nat_lt i (space.offset + length encoded)) refl refl
      by_entry i w x more false false m n =
          let high : e + 2 + length entry ≤ i = grind (arith, nat_tests, n) in
          put_behind (e + 2) entry wide i x high
          ∙ outside i more w
          (ap (λ xs. get_or xs i 0) out_is ∙ put_behind (e + 2) entry roomed i entry_fits high)
          (nat_lt i space.offset) (nat_lt i (space.offset + length encoded)) refl refl
      by_entry i w x more false true m n =
          let low : e + 2 ≤ i = grind (arith, nat_tests, m) in
          let high : i < e + 2 + length entry = grind (arith, nat_tests, n) in
          put_on (e + 2) entry wide i x low high
          ∙ sym (ap (λ xs. get_or xs i 0) out_is ∙ put_on (e + 2) entry roomed i entry_fits low high)

  -- the same value put over the entry again
  put_again : (qs : List Patch) → Fits order value e out qs → patched qs out ≡ out
  put_again qs g = ap (λ rs. patched rs out) g.is ∙ by_size (is_small encoded) refl
    where
      some_space : (n : ℕ) → 4 < n → (n == 0) ≡ false
      some_space n h = grind (arith, nat_tests, h)

      by_size : (t : Bool) → is_small encoded ≡ t
          → patched (value_patches order value e (value_space (number_of order) out e)) out ≡ out
      by_size true small =
          ap (λ (s : Span). patched (value_patches order value e s) out) (again_small small)
          ∙ (ap (λ xs. put_at (e + 2) xs out) (small_entry small) ∙ entry_again)
      by_size false long =
          let more : 4 < length encoded = grind (arith, nat_tests, long) in
          ap (λ (s : Span). patched (value_patches order value e s) out) (again_long long)
          ∙ (ap (λ (z : Bool). patched ((if z then [] else record { offset = space.offset; bytes = space_bytes (length encoded) encoded } ∷ []) ++ record { offset = e + 2; bytes = entry } ∷ []) out)
          (some_space (length encoded) more)
          ∙ (ap (λ xs. put_at (e + 2) entry (put_at space.offset (padded (length encoded) xs) out)) (ap (λ (t : Bool). if t then [] else encoded) long)
          ∙ long_again long))

-- ---- the whole

-- what a value that was set says of itself
record WasCounted (value : Value) : Type 0 where
  known : is_unknown value ≡ false
  few : count_of value < 256 ^ 4

was_counted : (bytes : List ℕ) (tag : Tag) (k : In) (value : Value) (ps : List Patch)
    → set_patches bytes tag k value ≡ Ok ps → WasCounted value
unfolding set_patches checked_patches value_answer
was_counted bytes tag k value ps e =
    let a = passed (names_offsets tag) offset_named
    (λ u. unless (is_unknown value) unknown_type >>= λ v. checked_patches bytes tag k value) ps e in
    let b = passed (is_unknown value) unknown_type (λ v. checked_patches bytes tag k value) ps a.1 in
    let c = bound (find_answer bytes tag k)
    (λ found. value_answer (order_named found.0.little) value found.1 bytes >>= λ qs. checked
    (expected tag k value found.1 bytes found.0) bytes qs) ps b.1 in
    let order = order_named c.0.0.little in
    let n = c.0.1 in
    let d = bound (value_answer order value n bytes)
    (λ qs. checked (expected tag k value n bytes c.0.0) bytes qs) ps c.2 in
    let s = value_space (number_of order) bytes n in
    let x = passed (nat_lt (length bytes) (n + 12)) shared
    (λ u. answer_in order value n s (length bytes)) d.0 d.1 in
    let y = passed (nat_lt (length bytes) (s.offset + s.len)) shared
    (λ u. unless (nat_lt (2 ^ 32 - 1) (count_of value)) too_long >>= λ v. unless
    (nat_lt (max 4 s.len) (length (encode order value))) too_long >>= λ w. Ok
    (value_patches order value n s)) d.0 x.1 in
    let z = passed (nat_lt (2 ^ 32 - 1) (count_of value)) too_long
    (λ v. unless (nat_lt (max 4 s.len) (length (encode order value))) too_long >>= λ w. Ok
    (value_patches order value n s)) d.0 y.1 in
    let few = z.0 in
    record { known = b.0; few = grind (arith, nat_tests, few) }

pub set_again : (tag : Tag) (k : In) (value : Value) (old new again : List ℕ)
    → set_answer old tag k value ≡ Ok new → set_answer new tag k value ≡ Ok again
    → KeepsEntry tag k old new → again ≡ new
set_again tag k value old new again e e' keeps =
    let a = bound (set_patches old tag k value) (λ ps. Ok (patched ps old)) new e in
    let b = bound (set_patches new tag k value) (λ ps. Ok (patched ps new)) again e' in
    let made : patched a.0 old ≡ new = ok_same (patched a.0 old) new a.2 in
    let v = was_set old a.0 tag k value a.1 in
    let w = was_set new b.0 tag k value b.1 in
    let c = was_counted old tag k value a.0 a.1 in
    let order = order_named v.read.little in
    let short = (header_space old order (header_named old v.read v.reads)).1 in
    let little : w.read.little ≡ v.read.little =
    read_little w.read (expected tag k value v.at.entry old v.read)
    (sym w.reads ∙ (ap reading (sym made) ∙ v.reads_new)) in
    let entry : w.at.entry ≡ v.at.entry =
    keeps v.at w.at v.last w.last in
    let g : Fits order value v.at.entry new b.0 =
    subst (λ (n : ℕ). Fits order value n new b.0) entry
    (subst (λ (l : Bool). Fits (order_named l) value w.at.entry new b.0) little w.fits) in
    sym (ok_same (patched b.0 new) again b.2)
    ∙ (ap (patched b.0) (sym made)
    ∙ (put_again order value v.at.entry old a.0 v.fits c.known c.few (omega (arith, short)) b.0
    (subst (λ xs. Fits order value v.at.entry xs b.0) (sym made) g) ∙ made))
  where
    read_little : (x y : Read) → ◌≡◌ {A = Result Read Fault} (Ok x) (Ok y) → x.little ≡ y.little
    read_little x y e = ap (λ (r : Result Read Fault). elim r as (λ _. Bool) [ Ok z ↦ z.little | Err f ↦ x.little ]) e
