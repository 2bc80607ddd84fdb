-- Bytes that agree on a stretch spell the same numbers and values there.
use Rattle.std.proofs.Common.{◌≡◌, ◌≤◌, ◌<◌, ◌+◌, ◌-◌, ◌*◌, ℕ, zero, suc, List, [], ◌∷◌, length, map, take, drop, slice_index, Option, Some, None, refl, sym, ap, ◌∙◌, arith}
use Rattle.std.proofs.Math.Nat.{mul-suc}
use Rattle.std.proofs.lemmas.List.{get_or-drop, get_or-take, length-drop}
use Rattle.std.specs.Int.{w8, w16, w32, cast_signed}
use Rattle.byteorder.specs.Endian.{big_from, little_from}
use Rattle.exif_base.specs.Bytes.{bytes_at, number_at, spaced}
use Rattle.exif_base.specs.Orders.{number_of}
use Rattle.exif_base.specs.declared.endian.Order.{Order}
use Rattle.exif_base.specs.declared.endian.Order.TheVariants.{Big, Little}
use Rattle.exif_tiff.specs.Decode.{decode, decode_as}
use Rattle.exif_text.specs.FieldTypes.{known_length, type_of, unit_length}
use Rattle.exif_tiff.specs.Rationals.{rational_at, srational_at}
use Rattle.exif_types.specs.Texts.{texts}
use Rattle.exif_text.specs.declared.field_type.FieldType.{FieldType}
use Rattle.exif_text.specs.declared.field_type.FieldType.TheVariants as field_type
use Rattle.exif_types.specs.declared.value.Value.{Value}
use Rattle.exif_types.specs.declared.value.Value.TheVariants as value

-- the same byte is in both at each offset of a stretch
abbrev pub Same : List ℕ → List ℕ → ℕ → ℕ → Type 0
Same a b p n = (i : ℕ) → p ≤ i → i < p + n → slice_index a i ≡ slice_index b i

-- lists that agree on a stretch agree on each stretch that lies within it
pub part_same : (a b : List ℕ) (p n q m : ℕ) → p ≤ q → q + m ≤ p + n → Same a b p n → Same a b q m
part_same a b p n q m low high h i from to = h i (omega arith) (omega arith)

-- a byte of a stretch is that of the data at its offset
pub taken : (n : ℕ) (xs : List ℕ) (p i : ℕ) → i < n → slice_index (bytes_at n xs p) i ≡ slice_index xs (p + i)
taken n xs p i lt = get_or-take n (drop p xs) i 0 lt ∙ get_or-drop p xs i 0

-- where the bytes of a stretch are equal, each offset of it holds the same byte in both
pub same_of : (a b : List ℕ) (p n : ℕ) → bytes_at n a p ≡ bytes_at n b p → Same a b p n
same_of a b p n e i from to =
    let on : p + (i - p) ≡ i = omega arith in
    let both = sym (taken n a p (i - p) (omega arith)) ∙ (ap (λ xs. slice_index xs (i - p)) e ∙ taken n b p (i - p) (omega arith)) in
    rw on at both

front_same : (n : ℕ) (a b : List ℕ) → length a ≡ length b
    → ((i : ℕ) → i < n → slice_index a i ≡ slice_index b i) → take n a ≡ take n b
front_same zero a b e h = refl
front_same (suc n) [] [] e h = refl
front_same (suc n) [] (y ∷ b) e h = absurd (omega (arith, e))
front_same (suc n) (x ∷ a) [] e h = absurd (omega (arith, e))
front_same (suc n) (x ∷ a) (y ∷ b) e h =
    let one : x ≡ y = h 0 (omega arith) in
    let rest = front_same n a b (omega (arith, e)) (λ i lt. h (suc i) (omega arith)) in
    rw (one, rest) refl

-- in data of one length, a stretch that agrees offset by offset has equal bytes
pub bytes_same : (a b : List ℕ) (p n : ℕ) → length a ≡ length b → Same a b p n
    → bytes_at n a p ≡ bytes_at n b p
bytes_same a b p n e h =
    front_same n (drop p a) (drop p b) (omega (arith, e, length-drop p a, length-drop p b))
    (λ i lt. get_or-drop p a i 0 ∙ (h (p + i) (omega arith) (omega arith) ∙ sym (get_or-drop p b i 0)))

big_same : (i n : ℕ) (a b : List ℕ) → Same a b i n → big_from i n a ≡ big_from i n b
big_same i zero a b h = refl
big_same i (suc n) a b h =
    let one = h i (omega arith) (omega arith) in
    let rest = big_same (suc i) n a b (part_same a b i (suc n) (suc i) n (omega arith) (omega arith) h) in
    rw (one, rest) refl

little_same : (i n : ℕ) (a b : List ℕ) → Same a b i n → little_from i n a ≡ little_from i n b
little_same i zero a b h = refl
little_same i (suc n) a b h =
    let one = h i (omega arith) (omega arith) in
    let rest = little_same (suc i) n a b (part_same a b i (suc n) (suc i) n (omega arith) (omega arith) h) in
    rw (one, rest) refl

behind_same : (a b : List ℕ) (p n : ℕ) → Same a b p n → Same (drop p a) (drop p b) 0 n
behind_same a b p n h i from to =
    get_or-drop p a i 0 ∙ (h (p + i) (omega arith) (omega arith) ∙ sym (get_or-drop p b i 0))

-- where n bytes agree, the number of n bytes there is the same, in either byte order
pub number_same : (order : Order) (n : ℕ) (a b : List ℕ) (p : ℕ) → Same a b p n
    → number_at (number_of order) n a p ≡ number_at (number_of order) n b p
number_same Big n a b p h = big_same 0 n (drop p a) (drop p b) (behind_same a b p n h)
number_same Little n a b p h = little_same 0 n (drop p a) (drop p b) (behind_same a b p n h)

-- items one after the other
items_same : {X : Type 0} (f g : ℕ → X) (a b : List ℕ) (unit : ℕ)
    → ((q : ℕ) → Same a b q unit → f q ≡ g q)
    → (count p : ℕ) → Same a b p (unit * count)
    → map f (spaced p unit count) ≡ map g (spaced p unit count)
items_same f g a b unit each zero p h = refl
items_same f g a b unit each (suc count) p h =
    let m : unit * suc count ≡ unit * count + unit = mul-suc unit count in
    let one = each p (part_same a b p (unit * suc count) p unit (omega arith) (omega (arith, m)) h) in
    let rest = items_same f g a b unit each count (p + unit)
    (part_same a b p (unit * suc count) (p + unit) (unit * count) (omega arith) (omega (arith, m)) h) in
    rw (one, rest) refl

rational_same : (order : Order) (a b : List ℕ) (p : ℕ) → Same a b p 8
    → rational_at (number_of order) a p ≡ rational_at (number_of order) b p
rational_same order a b p h =
    let num = number_same order 4 a b p (part_same a b p 8 p 4 (omega arith) (omega arith) h) in
    let denom = number_same order 4 a b (p + 4) (part_same a b p 8 (p + 4) 4 (omega arith) (omega arith) h) in
    rw (num, denom) refl

srational_same : (order : Order) (a b : List ℕ) (p : ℕ) → Same a b p 8
    → srational_at (number_of order) a p ≡ srational_at (number_of order) b p
srational_same order a b p h =
    let num = number_same order 4 a b p (part_same a b p 8 p 4 (omega arith) (omega arith) h) in
    let denom = number_same order 4 a b (p + 4) (part_same a b p 8 (p + 4) 4 (omega arith) (omega arith) h) in
    rw (num, denom) refl

-- items of one byte
single_alike : (count : ℕ) (a b : List ℕ) (p : ℕ) → bytes_at (1 * count) a p ≡ bytes_at (1 * count) b p
    → bytes_at count a p ≡ bytes_at count b p
single_alike count a b p e =
    let one : 1 * count ≡ count = omega arith in
    rw one at e

-- a value of a type, where the bytes that hold it are the same
type_alike : (order : Order) (t : FieldType) (count : ℕ) (a b : List ℕ) (p : ℕ)
    → bytes_at (unit_length t * count) a p ≡ bytes_at (unit_length t * count) b p
    → decode_as (number_of order) t count a p ≡ decode_as (number_of order) t count b p
type_alike order field_type.Byte count a b p e = ap value.Byte (single_alike count a b p e)
type_alike order field_type.Ascii count a b p e =
    ap (λ xs. value.Ascii (texts xs)) (single_alike count a b p e)
type_alike order field_type.Short count a b p e =
    ap value.Short (items_same (number_at (number_of order) 2 a) (number_at (number_of order) 2 b) a b 2 (number_same order 2 a b) count p (same_of a b p (2 * count) e))
type_alike order field_type.Long count a b p e =
    ap value.Long (items_same (number_at (number_of order) 4 a) (number_at (number_of order) 4 b) a b 4 (number_same order 4 a b) count p (same_of a b p (4 * count) e))
type_alike order field_type.Rational count a b p e =
    ap value.Rational (items_same (rational_at (number_of order) a) (rational_at (number_of order) b) a b 8 (rational_same order a b) count p (same_of a b p (8 * count) e))
type_alike order field_type.SByte count a b p e =
    ap value.SByte (items_same (λ q. cast_signed w8 (slice_index a q)) (λ q. cast_signed w8 (slice_index b q)) a b 1 (λ q s. ap (cast_signed w8) (s q (omega arith) (omega arith))) count p (same_of a b p (1 * count) e))
type_alike order field_type.Undefined count a b p e =
    ap (λ xs. value.Undefined xs p) (single_alike count a b p e)
type_alike order field_type.SShort count a b p e =
    ap value.SShort (items_same (λ q. cast_signed w16 (number_at (number_of order) 2 a q)) (λ q. cast_signed w16 (number_at (number_of order) 2 b q)) a b 2 (λ q s. ap (cast_signed w16) (number_same order 2 a b q s)) count p (same_of a b p (2 * count) e))
type_alike order field_type.SLong count a b p e =
    ap value.SLong (items_same (λ q. cast_signed w32 (number_at (number_of order) 4 a q)) (λ q. cast_signed w32 (number_at (number_of order) 4 b q)) a b 4 (λ q s. ap (cast_signed w32) (number_same order 4 a b q s)) count p (same_of a b p (4 * count) e))
type_alike order field_type.SRational count a b p e =
    ap value.SRational (items_same (srational_at (number_of order) a) (srational_at (number_of order) b) a b 8 (srational_same order a b) count p (same_of a b p (8 * count) e))
type_alike order field_type.Float count a b p e =
    ap value.Float (items_same (number_at (number_of order) 4 a) (number_at (number_of order) 4 b) a b 4 (number_same order 4 a b) count p (same_of a b p (4 * count) e))
type_alike order field_type.Double count a b p e =
    ap value.Double (items_same (number_at (number_of order) 8 a) (number_at (number_of order) 8 b) a b 8 (number_same order 8 a b) count p (same_of a b p (8 * count) e))

known_alike : (order : Order) (o : Option FieldType) (type count : ℕ) (a b : List ℕ) (p : ℕ)
    → bytes_at (known_length o * count) a p ≡ bytes_at (known_length o * count) b p
    → elim o as (λ x. Value)
    [ Some t ↦ decode_as (number_of order) t count a p | None ↦ value.Unknown type count p ]
    ≡ elim o as (λ x. Value)
    [ Some t ↦ decode_as (number_of order) t count b p | None ↦ value.Unknown type count p ]
known_alike order None type count a b p e = refl
known_alike order (Some t) type count a b p e = type_alike order t count a b p e

-- equal bytes of a value, of any type, are decoded to the same value
pub decode_alike : (order : Order) (type count : ℕ) (a b : List ℕ) (p : ℕ)
    → bytes_at (known_length (type_of type) * count) a p
    ≡ bytes_at (known_length (type_of type) * count) b p
    → decode (number_of order) type count a p ≡ decode (number_of order) type count b p
decode_alike order type count a b p e = known_alike order (type_of type) type count a b p e

-- the same in data of one length, where the bytes of the value agree offset by offset
pub decode_same : (order : Order) (type count : ℕ) (a b : List ℕ) (p : ℕ) → length a ≡ length b
    → Same a b p (known_length (type_of type) * count)
    → decode (number_of order) type count a p ≡ decode (number_of order) type count b p
decode_same order type count a b p e h =
    decode_alike order type count a b p
    (bytes_same a b p (known_length (type_of type) * count) e h)
