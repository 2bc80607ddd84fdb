-- The entry that a value was put into has that value.
use Rattle.std.proofs.Common.{◌≡◌, ◌≤◌, ◌<◌, ◌+◌, ◌-◌, ◌^◌, ◌==◌, ℕ, Bool, true, false, if◌then◌else◌, List, [], ◌∷◌, ◌++◌, length, take, drop, replicate, ◌⊎◌, inl, inr, Some, refl, sym, ap, subst, ◌∙◌, arith}
use Rattle.std.specs.Prelude.{nat_le, slice_index}
use Rattle.std.proofs.lemmas.Bool.{false≢true}
use Rattle.std.proofs.lemmas.Bool.Decides.{nat_tests}
use Rattle.std.proofs.lemmas.List.{length-take-le}
use Rattle.exif_base.specs.Bytes.{number_at}
use Rattle.exif_base.specs.Orders.{number_of}
use Rattle.exif_base.specs.declared.endian.Order.{Order}
use Rattle.exif_types.specs.ValueTypes.{count_of, type_number}
use Rattle.exif_types.specs.declared.value.Value.{Value}
use Rattle.exif_tiff.specs.Trace.{entry_value}
use Rattle.exif_tiff.proofs.Agreement.{bytes_same}
use Rattle.exif_layout.specs.Encoding.{encode, moved_to, spelled, value_len}
use Rattle.exif_layout.specs.Layout.{Stands}
use Rattle.exif_layout.specs.Offsets.{Written}
use Rattle.exif_layout.specs.Slots.{Known}
use Rattle.exif_layout.proofs.Images.Entries.{counted, fits_known, value_is}
use Rattle.exif_layout.proofs.Images.Standing.{number_read, stands_left, stands_of, stands_right, length_spelled}
use Rattle.exif_layout.proofs.Images.Values.{length-encode}
use Rattle.exif_layout.proofs.Images.Words.{Fits as IsReadable}
use Rattle.exif_edit_base.specs.Patches.{padded, patched, put_at}
use Rattle.exif_edit_base.specs.declared.patch.Patch.{Patch}
use Rattle.exif_edit_base.specs.declared.patch.Span.{Span}
use Rattle.exif_edit_base.proofs.PatchSteps.{length-put_at, put_before, put_behind}
use Rattle.exif_edit_base.specs.Spans.{value_space}
use Rattle.exif_edit.specs.Setting.{element_bytes, entry_bytes, is_small, space_patches, space_bytes, set_offset}
use Rattle.exif_edit.proofs.SetSound.{Fits, value_lengths}

-- the new data are in the file
put_stands : (offset : ℕ) (encoded bytes : List ℕ) → offset + length encoded ≤ length bytes
    → Stands (put_at offset encoded bytes) offset encoded
put_stands offset encoded bytes h =
    stands_of (put_at offset encoded bytes) (take offset bytes) encoded (drop (offset + length encoded) bytes)
    offset refl (length-take-le offset bytes (omega arith))

-- data that were moved elsewhere
stands_on : (offset : ℕ) (encoded bytes : List ℕ) (q : ℕ) (other : List ℕ)
    → offset + length encoded ≤ length bytes → (q + length other ≤ offset) ⊎ (offset + length encoded ≤ q)
    → Stands bytes q other → Stands (put_at offset encoded bytes) q other
stands_on offset encoded bytes q other h apart s =
    let len = length-put_at offset encoded bytes h in
    let within = s.within in
    record {
      within = omega (arith, len);
      there = bytes_same (put_at offset encoded bytes) bytes q (length other) len by_offset ∙ s.there;
    }
  where
    by_offset : (i : ℕ) → q ≤ i → i < q + length other
        → slice_index (put_at offset encoded bytes) i ≡ slice_index bytes i
    by_offset i low high = elim apart [
      | inl a ↦ put_before offset encoded bytes i h (omega arith)
      | inr a ↦ put_behind offset encoded bytes i h (omega arith)
    ]

-- ---- both patches

module _ (order : Order) (value : Value) (e : ℕ) (bytes : List ℕ) (ps : List Patch)
    (f : Fits order value e bytes ps)
    (apart : ((value_space (number_of order) bytes e).len ≡ 0)
    ⊎ (((value_space (number_of order) bytes e).offset + (value_space (number_of order) bytes e).len ≤ e)
    ⊎ (e + 12 ≤ (value_space (number_of order) bytes e).offset))) where
  abbrev encoded : List ℕ
  encoded = encode order value

  abbrev space : Span
  space = value_space (number_of order) bytes e

  abbrev out : List ℕ
  out = patched ps bytes

  abbrev entry : List ℕ
  entry = entry_bytes order value space.offset encoded

  -- the bytes with what goes into the space
  abbrev roomed : List ℕ
  roomed = patched (space_patches space encoded) bytes

  put_in_space : (z : Bool) → (space.len == 0) ≡ z
      → ((length roomed ≡ length bytes)
      × (z ≡ false → Stands roomed space.offset (space_bytes space.len encoded)))
  put_in_space true z = (rw z refl, λ no. absurd (false≢true (sym no)))
  put_in_space false z =
      let lens = value_lengths order value space f.encoded in
      let len = lens.0 in
      let far = f.far in
      let fits : space.offset + length (space_bytes space.len encoded) ≤ length bytes = omega (arith, len) in (
        rw z (length-put_at space.offset (space_bytes space.len encoded) bytes fits),
        λ no. rw z (put_stands space.offset (space_bytes space.len encoded) bytes fits),
      )

  out_is : out ≡ put_at (e + 2) entry roomed
  out_is = ap (λ qs. patched qs bytes) f.is ∙ by_space (space.len == 0)
    where
      by_space : (z : Bool)
          → patched ((if z then [] else record { offset = space.offset; bytes = space_bytes space.len encoded }
          ∷ []) ++ record { offset = e + 2; bytes = entry } ∷ []) bytes
          ≡ put_at (e + 2) entry
          (patched (if z then [] else record { offset = space.offset; bytes = space_bytes space.len encoded }
          ∷ []) bytes)
      by_space true = refl
      by_space false = refl

  entry_fits : e + 2 + length entry ≤ length roomed
  entry_fits =
      let whole = f.whole in
      let lens = value_lengths order value space f.encoded in
      let ten = lens.1 in
      let held = put_in_space (space.len == 0) refl in
      let len = held.0 in
      omega (arith, ten, len)

  entry_stands : Stands out (e + 2) entry
  entry_stands = rw out_is (put_stands (e + 2) entry roomed entry_fits)

  -- a long value is in the space
  space_is_there : is_small encoded ≡ false → Stands out space.offset encoded
  space_is_there long =
      let fit = f.encoded in
      let more : 4 < length encoded = grind (arith, nat_tests) in
      let some : (space.len == 0) ≡ false = grind (arith, nat_tests) in
      let lens = value_lengths order value space f.encoded in
      let len = lens.0 in
      let ten = lens.1 in
      let held = put_in_space (space.len == 0) refl in
      let whole = held.1 some in
      let here = stands_on (e + 2) entry roomed space.offset (space_bytes space.len encoded) entry_fits
      (elim apart [
        | inl none ↦ absurd (omega (arith, none))
        | inr (inl a) ↦ inl (omega (arith, len))
        | inr (inr a) ↦ inr (omega (arith, ten))
      ]) whole in
      let spelt : space_bytes space.len encoded ≡ encoded ++ replicate (space.len - length encoded) 0 =
      rw long refl in
      stands_left out encoded (replicate (space.len - length encoded) 0) space.offset
      (rw (out_is, ← spelt) here)

  -- an entry has the readable value that was put into it, with the offset where its bytes now are
  pub new_value : IsReadable value → length out < 256 ^ 4 → count_of value < 256 ^ 4
      → entry_value (number_of order) out e
      ≡ Some (moved_to (set_offset space.offset e encoded) value)
  new_value h small few =
      let type_bytes : List ℕ = spelled order 2 (type_number value) in
      let count_bytes : List ℕ = spelled order 4 (count_of value) in
      let last : List ℕ = element_bytes order space.offset encoded in
      let tl : length type_bytes ≡ 2 = length_spelled order 2 (type_number value) in
      let cl : length count_bytes ≡ 4 = length_spelled order 4 (count_of value) in
      let s = entry_stands in
      let cs = stands_right out type_bytes (count_bytes ++ last) (e + 2) (e + 4) s (omega (arith, tl)) in
      let ls = stands_right out count_bytes last (e + 4) (e + 8) cs (omega (arith, cl)) in
      let known = counted value h in
      let low = known.type in
      let type = number_read order 2 (type_number value) (e + 2) out (omega arith)
      (stands_left out type_bytes (count_bytes ++ last) (e + 2) s) in
      let count = number_read order 4 (count_of value) (e + 4) out few
      (stands_left out count_bytes last (e + 4) cs) in
      let size = length-encode order value (fits_known value h) in
      by_size (is_small encoded) refl size type count ls
    where
      written : ℕ → Written
      written offset = record { tag = 0; content = Known value; value = value; offset = offset }

      by_size : (t : Bool) → is_small encoded ≡ t → length encoded ≡ value_len value
          → number_at (number_of order) 2 out (e + 2) ≡ type_number value
          → number_at (number_of order) 4 out (e + 4) ≡ count_of value
          → Stands out (e + 8) (if t then padded 4 encoded else spelled order 4 space.offset)
          → entry_value (number_of order) out e
          ≡ Some (moved_to (if t then e + 8 else space.offset) value)
      by_size true t size type count s =
          let fit : nat_le (value_len value) 4 ≡ true = ap (λ n. nat_le n 4) (sym size) ∙ t in
          value_is order out small (written (e + 8)) e h type count true fit
          (subst (λ n. Stands out (e + 8) (encoded ++ replicate (4 - n) 0)) size s) (λ x. refl)
          (λ no. absurd (false≢true (sym no)))
      by_size false t size type count s =
          let fit : nat_le (value_len value) 4 ≡ false = ap (λ n. nat_le n 4) (sym size) ∙ t in
          value_is order out small (written space.offset) e h type count false fit s
          (λ no. absurd (false≢true no)) (λ x. space_is_there t)
