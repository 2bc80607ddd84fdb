-- A value whose bytes are in the data is decoded as it was.
use Rattle.std.proofs.Common.{◌≡◌, ℕ, ◌+◌, ◌*◌, ◌<◌, ◌^◌, ◌==◌, List, [], ◌∷◌, ◌++◌, length, take, drop, get_or, refl, sym, ap, ◌∙◌, arith, false}
use Rattle.std.proofs.lemmas.Bool.{ne_eqb}
use Rattle.std.proofs.lemmas.Int.{to_z-of_z}
use mir.Val.{bits}
use mir.ValLaws as laws
use Rattle.std.specs.Int.{Width, w8, w16, w32, cast_signed, cast_unsigned}
use Rattle.std.specs.Prelude.{ℤ, FitsSigned, slice_index}
use Rattle.std.proofs.lemmas.List.{append_assoc, length-append, get_or-drop}
use Rattle.std.specs.List.{AllByRecursion, flat_map, slice_split, onto_first}
use Rattle.exif_base.specs.declared.endian.Order.{Order}
use Rattle.exif_base.specs.Bytes.{number_at, items_at}
use Rattle.exif_base.specs.Orders.{number_of}
use Rattle.exif_text.specs.declared.rational.Rational as rational
use Rattle.exif_text.specs.declared.rational.SRational as srational
use Rattle.exif_tiff.specs.Rationals.{rational_at, srational_at}
use Rattle.exif_types.specs.Texts.{texts, without_empty_last, ended}
use Rattle.exif_tiff.specs.Decode.{decode}
use Rattle.exif_tiff.proofs.DecodeLemmas.{drops_last}
use Rattle.exif_types.specs.declared.value.Value.{Value}
use Rattle.exif_types.specs.declared.value.Value.TheVariants.{Byte, Ascii, Short, Long, Rational, SByte, Undefined, SShort, SLong, SRational, Float, Double, Unknown}
use Rattle.exif_layout.specs.Encoding.{spelled, encode, value_len, moved_to}
use Rattle.exif_types.specs.ValueTypes.{type_number, count_of}
use Rattle.exif_layout.specs.Refused.{is_unknown}
use Rattle.exif_layout.specs.Layout.{Stands}
use Rattle.exif_layout.proofs.Images.Words.{Fits, IsPlain}
use Rattle.exif_layout.proofs.Images.Standing.{stands_left, stands_right, number_read, length_spelled}

-- items of one width are read, where each one is
items_read : {X : Type 0} (item : ℕ → X) (spell : X → List ℕ) (width : ℕ) (P : X → Type 0) (bytes : List ℕ)
    → ((x : X) (p : ℕ) → P x → Stands bytes p (spell x) → item p ≡ x) → ((x : X) → length (spell x) ≡ width)
    → (xs : List X) (p : ℕ) → AllByRecursion P xs → Stands bytes p (flat_map spell xs) → items_at item width (length xs) p ≡ xs
items_read item spell width P bytes reads wide [] p a s = refl
items_read item spell width P bytes reads wide (x ∷ xs) p a s =
    let one = reads x p a.0 (stands_left bytes (spell x) (flat_map spell xs) p s) in
    let more = items_read item spell width P bytes reads wide xs (p + width) a.1
    (stands_right bytes (spell x) (flat_map spell xs) p (p + width) s (ap (λ n. p + n) (sym (wide x)))) in
    λ i. one i ∷ more i

length_flat : {X : Type 0} (spell : X → List ℕ) (width : ℕ) → ((x : X) → length (spell x) ≡ width) → (xs : List X) → length (flat_map spell xs) ≡ width * length xs
length_flat spell width wide [] = omega arith
length_flat spell width wide (x ∷ xs) =
    let a = length-append (spell x) (flat_map spell xs) in
    let b = wide x in
    let c = length_flat spell width wide xs in
    omega arith

text_first : (text rest : List ℕ) → IsPlain text → slice_split (λ b. b == 0) (text ++ 0 ∷ rest) ≡ text ∷ slice_split (λ b. b == 0) rest
text_first [] rest h = refl
text_first (b ∷ text) rest h = rw (ne_eqb b 0 h.0) (ap (onto_first b) (text_first text rest h.1))

split_ended : (xs : List (List ℕ)) → AllByRecursion IsPlain xs → slice_split (λ b. b == 0) (flat_map ended xs) ≡ xs ++ [] ∷ []
split_ended [] h = refl
split_ended (x ∷ xs) h =
    ap (slice_split (λ b. b == 0)) (append_assoc x (0 ∷ []) (flat_map ended xs)) ∙ text_first x (flat_map ended xs) h.0 ∙ ap (λ r. x ∷ r) (split_ended xs h.1)

-- texts without zero bytes are read, each up to the zero byte that ends it
texts_ended : (xs : List (List ℕ)) → AllByRecursion IsPlain xs → texts (flat_map ended xs) ≡ xs
texts_ended xs h = ap without_empty_last (split_ended xs h) ∙ drops_last xs

length_pair : (order : Order) (x y : ℕ) → length (spelled order 4 x ++ spelled order 4 y) ≡ 8
length_pair order x y =
    length-append (spelled order 4 x) (spelled order 4 y) ∙ rw (length_spelled order 4 x, length_spelled order 4 y) refl

-- a value of a known type is spelled in as many bytes as its length says
pub length-encode : (order : Order) (value : Value) → is_unknown value ≡ false → length (encode order value) ≡ value_len value
length-encode order (Byte xs) h = omega arith
length-encode order (Ascii xs) h = omega arith
length-encode order (Short xs) h = length_flat (spelled order 2) 2 (length_spelled order 2) xs
length-encode order (Long xs) h = length_flat (spelled order 4) 4 (length_spelled order 4) xs
length-encode order (Rational xs) h = length_flat (λ x. spelled order 4 x.num ++ spelled order 4 x.denom) 8 (λ x. length_pair order x.num x.denom) xs
length-encode order (SByte xs) h = length_flat (λ x. cast_unsigned w8 x ∷ []) 1 (λ x. refl) xs
length-encode order (Undefined xs offset) h = omega arith
length-encode order (SShort xs) h = length_flat (λ x. spelled order 2 (cast_unsigned w16 x)) 2 (λ x. length_spelled order 2 (cast_unsigned w16 x)) xs
length-encode order (SLong xs) h = length_flat (λ x. spelled order 4 (cast_unsigned w32 x)) 4 (λ x. length_spelled order 4 (cast_unsigned w32 x)) xs
length-encode order (SRational xs) h =
    length_flat (λ x. spelled order 4 (cast_unsigned w32 x.num) ++ spelled order 4 (cast_unsigned w32 x.denom)) 8
    (λ x. length_pair order (cast_unsigned w32 x.num) (cast_unsigned w32 x.denom)) xs
length-encode order (Float xs) h = length_flat (spelled order 4) 4 (length_spelled order 4) xs
length-encode order (Double xs) h = length_flat (spelled order 8) 8 (length_spelled order 8) xs
length-encode order (Unknown type count offset) h = absurd cc

first_is : (xs : List ℕ) (b : ℕ) → take 1 xs ≡ b ∷ [] → get_or xs 0 0 ≡ b
first_is [] b h = ap (λ l. get_or l 0 0) h
first_is (x ∷ xs) b h = ap (λ l. get_or l 0 0) h

byte_read : (bytes : List ℕ) (b p : ℕ) → Stands bytes p (b ∷ []) → slice_index bytes p ≡ b
byte_read bytes b p s =
    let e : p + 0 ≡ p = omega arith in
    ap (slice_index bytes) (sym e) ∙ sym (get_or-drop p bytes 0 0) ∙ first_is (drop p bytes) b s.there

signed_back : (w : Width) (x : ℤ) (n : ℕ) → FitsSigned w x → n ≡ cast_unsigned w x → cast_signed w n ≡ x
signed_back w x n h e = ap (cast_signed w) e ∙ to_z-of_z w x h

module _ (order : Order) (bytes : List ℕ) where
  numbers_read : (n : ℕ) (xs : List ℕ) (p : ℕ) → AllByRecursion (λ x. x < 256 ^ n) xs → Stands bytes p (flat_map (spelled order n) xs)
      → items_at (number_at (number_of order) n bytes) n (length xs) p ≡ xs
  numbers_read n = items_read (number_at (number_of order) n bytes) (spelled order n) n (λ x. x < 256 ^ n) bytes
      (λ x p h s. number_read order n x p bytes h s) (length_spelled order n)

  sbytes_read : (xs : List ℤ) (p : ℕ) → AllByRecursion (FitsSigned w8) xs → Stands bytes p (flat_map (λ x. cast_unsigned w8 x ∷ []) xs)
      → items_at (λ q. cast_signed w8 (slice_index bytes q)) 1 (length xs) p ≡ xs
  sbytes_read = items_read (λ q. cast_signed w8 (slice_index bytes q)) (λ x. cast_unsigned w8 x ∷ []) 1 (FitsSigned w8) bytes
      (λ x p h s. signed_back w8 x (slice_index bytes p) h (byte_read bytes (cast_unsigned w8 x) p s)) (λ x. refl)

  signed_read : (w : Width) (n : ℕ) → 2 ^ bits w ≡ 256 ^ n → (x : ℤ) (p : ℕ) → FitsSigned w x → Stands bytes p (spelled order n (cast_unsigned w x))
      → cast_signed w (number_at (number_of order) n bytes p) ≡ x
  signed_read w n wide x p h s =
      let low : cast_unsigned w x < 2 ^ bits w = (laws.of_z_fits w x h).fits in
      signed_back w x (number_at (number_of order) n bytes p) h
      (number_read order n (cast_unsigned w x) p bytes (rw wide at low) s)

  signeds_read : (w : Width) (n : ℕ) → 2 ^ bits w ≡ 256 ^ n → (xs : List ℤ) (p : ℕ) → AllByRecursion (FitsSigned w) xs
      → Stands bytes p (flat_map (λ x. spelled order n (cast_unsigned w x)) xs) → items_at (λ q. cast_signed w (number_at (number_of order) n bytes q)) n (length xs) p ≡ xs
  signeds_read w n wide = items_read (λ q. cast_signed w (number_at (number_of order) n bytes q)) (λ x. spelled order n (cast_unsigned w x)) n (FitsSigned w) bytes
      (signed_read w n wide) (λ x. length_spelled order n (cast_unsigned w x))

  -- the second of two texts, of which the first has 4 bytes
  second_stands : (x y : List ℕ) (p : ℕ) → length x ≡ 4 → Stands bytes p (x ++ y) → Stands bytes (p + 4) y
  second_stands x y p wide s = stands_right bytes x y p (p + 4) s (ap (λ n. p + n) (sym wide))

  rational_read : (x : rational.Rational) (p : ℕ) → (x.num < 256 ^ 4) × (x.denom < 256 ^ 4)
      → Stands bytes p (spelled order 4 x.num ++ spelled order 4 x.denom) → rational_at (number_of order) bytes p ≡ x
  rational_read x p h s =
      let a = number_read order 4 x.num p bytes h.0 (stands_left bytes (spelled order 4 x.num) (spelled order 4 x.denom) p s) in
      let b = number_read order 4 x.denom (p + 4) bytes h.1 (second_stands (spelled order 4 x.num) (spelled order 4 x.denom) p (length_spelled order 4 x.num) s) in
      λ i. record { num = a i; denom = b i }

  srational_read : (x : srational.SRational) (p : ℕ) → FitsSigned w32 x.num × FitsSigned w32 x.denom
      → Stands bytes p (spelled order 4 (cast_unsigned w32 x.num) ++ spelled order 4 (cast_unsigned w32 x.denom)) → srational_at (number_of order) bytes p ≡ x
  srational_read x p h s =
      let n : List ℕ = spelled order 4 (cast_unsigned w32 x.num) in
      let d : List ℕ = spelled order 4 (cast_unsigned w32 x.denom) in
      let a = signed_read w32 4 refl x.num p h.0 (stands_left bytes n d p s) in
      let b = signed_read w32 4 refl x.denom (p + 4) h.1 (second_stands n d p (length_spelled order 4 (cast_unsigned w32 x.num)) s) in
      λ i. record { num = a i; denom = b i }

  -- a value that fits is read from the offset of its bytes, an undefined one with that offset
  pub decode_read : (value : Value) (p : ℕ) → Fits value → Stands bytes p (encode order value) → decode (number_of order) (type_number value) (count_of value) bytes p ≡ moved_to p value
  decode_read (Byte xs) p h s = ap Byte s.there
  decode_read (Ascii xs) p h s = ap Ascii (ap texts s.there ∙ texts_ended xs h)
  decode_read (Short xs) p h s = ap Short (numbers_read 2 xs p h s)
  decode_read (Long xs) p h s = ap Long (numbers_read 4 xs p h s)
  decode_read (Rational xs) p h s = ap Rational (items_read (rational_at (number_of order) bytes) (λ x. spelled order 4 x.num ++ spelled order 4 x.denom) 8
      (λ x. (x.num < 256 ^ 4) × (x.denom < 256 ^ 4)) bytes rational_read (λ x. length_pair order x.num x.denom) xs p h s)
  decode_read (SByte xs) p h s = ap SByte (sbytes_read xs p h s)
  decode_read (Undefined xs offset) p h s = ap (λ x. Undefined x p) s.there
  decode_read (SShort xs) p h s = ap SShort (signeds_read w16 2 refl xs p h s)
  decode_read (SLong xs) p h s = ap SLong (signeds_read w32 4 refl xs p h s)
  decode_read (SRational xs) p h s = ap SRational (items_read (srational_at (number_of order) bytes) (λ x. spelled order 4 (cast_unsigned w32 x.num) ++ spelled order 4 (cast_unsigned w32 x.denom)) 8
      (λ x. FitsSigned w32 x.num × FitsSigned w32 x.denom) bytes srational_read (λ x. length_pair order (cast_unsigned w32 x.num) (cast_unsigned w32 x.denom)) xs p h s)
  decode_read (Float xs) p h s = ap Float (numbers_read 4 xs p h s)
  decode_read (Double xs) p h s = ap Double (numbers_read 8 xs p h s)
  decode_read (Unknown type count offset) p h s = absurd h
