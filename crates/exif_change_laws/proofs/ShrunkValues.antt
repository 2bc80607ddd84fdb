-- An entry that is elsewhere holds the same value, read from there.
use Rattle.std.proofs.Common.{◌≡◌, ◌≤◌, ◌<◌, ◌+◌, ◌*◌, ℕ, zero, suc, Bool, true, false, if◌then◌else◌, List, [], ◌∷◌, length, map, take, drop, slice_index, Option, Some, None, refl, sym, ap, ◌∙◌, arith}
use Rattle.std.specs.Prelude.{◌&&◌, nat_le, nat_lt}
use Rattle.std.specs.Int.{w8, w16, w32, cast_signed}
use Rattle.std.specs.List.{AllByRecursion}
use Rattle.std.proofs.Math.Nat.{mul-suc}
use Rattle.std.proofs.lemmas.Bool.{false≢true}
use Rattle.std.proofs.lemmas.Bool.Decides.{nat_tests}
use Rattle.std.proofs.lemmas.Grind.{common_steps}
use Rattle.std.proofs.lemmas.List.{drop-drop, drop-take, get_or-drop, take-take}
use Rattle.exif_base.specs.Bytes.{bytes_at, number_at, spaced}
use Rattle.exif_base.specs.Orders.{number_of}
use Rattle.exif_base.specs.declared.endian.Order.{Order}
use Rattle.exif_tiff.specs.Decode.{decode, decode_as}
use Rattle.exif_tiff.specs.Footprint.{Agree, value_stretch}
use Rattle.exif_tiff.specs.Rationals.{rational_at, srational_at}
use Rattle.exif_tiff.specs.Trace.{entry_value}
use Rattle.exif_tiff.proofs.Agreement.{Same, decode_same, number_same, same_of, taken}
use Rattle.exif_text.specs.FieldTypes.{known_length, type_of, unit_length}
use Rattle.exif_types.specs.Numbers.{number_in}
use Rattle.exif_types.specs.Texts.{texts}
use Rattle.exif_text.specs.declared.field_type.FieldType.{FieldType}
use Rattle.exif_text.specs.declared.field_type.FieldType.TheVariants as field_type
use Rattle.exif_types.specs.declared.value.Value.{Value}
use Rattle.exif_types.specs.declared.value.Value.TheVariants as value
use Rattle.exif_edit_base.specs.Rereading.{value_at_entry}

-- ---- bytes that are elsewhere

-- the 12 bytes of the entry at e of a are at q of b
abbrev pub IsMoved : List ℕ → List ℕ → ℕ → ℕ → Type 0
IsMoved a b e q = bytes_at 12 a e ≡ bytes_at 12 b q

-- this many bytes from p on in a are those from q on in b
abbrev Shifted : List ℕ → List ℕ → ℕ → ℕ → ℕ → Type 0
Shifted a b p q n = (i : ℕ) → i < n → slice_index a (p + i) ≡ slice_index b (q + i)

part : (a b : List ℕ) (e q j n : ℕ) → j + n ≤ 12 → IsMoved a b e q → Shifted a b (e + j) (q + j) n
part a b e q j n h m i lt =
    let x : e + (j + i) ≡ e + j + i = omega arith in
    let y : q + (j + i) ≡ q + j + i = omega arith in
    let s = sym (taken 12 a e (j + i) (omega arith))
    ∙ (ap (λ xs. slice_index xs (j + i)) m ∙ taken 12 b q (j + i) (omega arith)) in
    rw (x, y) at s

number_shifted : (order : Order) (n : ℕ) (a b : List ℕ) (p q : ℕ) → Shifted a b p q n
    → number_at (number_of order) n a p ≡ number_at (number_of order) n b q
number_shifted order n a b p q h =
    number_same order n (drop p a) (drop q b) 0
    (λ i low high. get_or-drop p a i 0 ∙ (h i (omega arith) ∙ sym (get_or-drop q b i 0)))

-- a number within the 12 bytes of an entry is the same where the entry was moved to
pub number_moved : (order : Order) (n : ℕ) (a b : List ℕ) (e q j : ℕ) → j + n ≤ 12 → IsMoved a b e q
    → number_at (number_of order) n a (e + j) ≡ number_at (number_of order) n b (q + j)
number_moved order n a b e q j h m =
    number_shifted order n a b (e + j) (q + j) (part a b e q j n h m)

within : (n j m : ℕ) (xs : List ℕ) (e : ℕ) → n ≤ m
    → bytes_at n xs (e + j) ≡ take n (drop j (bytes_at (j + m) xs e))
within n j m xs e h =
    rw (drop-take j m (drop e xs), take-take n m (drop j (drop e xs)) h, drop-drop) refl

bytes_moved : (a b : List ℕ) (e q n : ℕ) → n ≤ 4 → IsMoved a b e q
    → bytes_at n a (e + 8) ≡ bytes_at n b (q + 8)
bytes_moved a b e q n h m =
    within n 8 4 a e h ∙ (ap (λ xs. take n (drop 8 xs)) m ∙ sym (within n 8 4 b q h))

-- ---- values that are in their entries

items_shifted : {X : Type 0} (f g : ℕ → X) (a b : List ℕ) (unit : ℕ)
    → ((p q : ℕ) → Shifted a b p q unit → f p ≡ g q)
    → (count p q : ℕ) → Shifted a b p q (unit * count)
    → map f (spaced p unit count) ≡ map g (spaced q unit count)
items_shifted f g a b unit each zero p q h = refl
items_shifted f g a b unit each (suc count) p q h =
    let m : unit * suc count ≡ unit * count + unit = mul-suc unit count in
    let one = each p q (λ i lt. h i (omega (arith, m))) in
    let rest = items_shifted f g a b unit each count (p + unit) (q + unit) (behind m) in
    rw (one, rest) refl
  where
    behind : unit * suc count ≡ unit * count + unit
        → Shifted a b (p + unit) (q + unit) (unit * count)
    behind m i lt =
        let x : p + (unit + i) ≡ p + unit + i = omega arith in
        let y : q + (unit + i) ≡ q + unit + i = omega arith in
        let s = h (unit + i) (omega (arith, m)) in
        rw (x, y) at s

rational_shifted : (order : Order) (a b : List ℕ) (p q : ℕ) → Shifted a b p q 8
    → rational_at (number_of order) a p ≡ rational_at (number_of order) b q
rational_shifted order a b p q h =
    let num = number_shifted order 4 a b p q (λ i lt. h i (omega arith)) in
    let denom = number_shifted order 4 a b (p + 4) (q + 4) (last h) in
    rw (num, denom) refl
  where
    last : Shifted a b p q 8 → Shifted a b (p + 4) (q + 4) 4
    last h i lt =
        let x : p + (4 + i) ≡ p + 4 + i = omega arith in
        let y : q + (4 + i) ≡ q + 4 + i = omega arith in
        let s = h (4 + i) (omega arith) in
        rw (x, y) at s

srational_shifted : (order : Order) (a b : List ℕ) (p q : ℕ) → Shifted a b p q 8
    → srational_at (number_of order) a p ≡ srational_at (number_of order) b q
srational_shifted order a b p q h =
    let num = number_shifted order 4 a b p q (λ i lt. h i (omega arith)) in
    let denom = number_shifted order 4 a b (p + 4) (q + 4) (last h) in
    rw (num, denom) refl
  where
    last : Shifted a b p q 8 → Shifted a b (p + 4) (q + 4) 4
    last h i lt =
        let x : p + (4 + i) ≡ p + 4 + i = omega arith in
        let y : q + (4 + i) ≡ q + 4 + i = omega arith in
        let s = h (4 + i) (omega arith) in
        rw (x, y) at s

-- a short value gives the offset of its entry alone
short_offset : (count : ℕ) (bytes : List ℕ) (p q : ℕ) → count ≤ 4
    → value_at_entry 0 (value.Undefined (bytes_at count bytes p) q)
    ≡ value.Undefined (bytes_at count bytes p) 8
short_offset count bytes p q h =
    let t : nat_le (length (bytes_at count bytes p)) 4 ≡ true = grind (arith, common_steps, nat_tests) in
    rw t refl

type_moved : (order : Order) (t : FieldType) (count : ℕ) (a b : List ℕ) (e q : ℕ) → IsMoved a b e q
    → unit_length t * count ≤ 4
    → value_at_entry 0 (decode_as (number_of order) t count a (e + 8))
    ≡ value_at_entry 0 (decode_as (number_of order) t count b (q + 8))
type_moved order field_type.Byte count a b e q m h =
    ap value.Byte (bytes_moved a b e q count (omega arith) m)
type_moved order field_type.Ascii count a b e q m h =
    ap (λ xs. value.Ascii (texts xs)) (bytes_moved a b e q count (omega arith) m)
type_moved order field_type.Short count a b e q m h =
    ap value.Short (items_shifted (number_at (number_of order) 2 a) (number_at (number_of order) 2 b) a b 2
    (number_shifted order 2 a b) count (e + 8) (q + 8) (part a b e q 8 (2 * count) (omega arith) m))
type_moved order field_type.Long count a b e q m h =
    ap value.Long (items_shifted (number_at (number_of order) 4 a) (number_at (number_of order) 4 b) a b 4
    (number_shifted order 4 a b) count (e + 8) (q + 8) (part a b e q 8 (4 * count) (omega arith) m))
type_moved order field_type.Rational count a b e q m h =
    ap value.Rational (items_shifted (rational_at (number_of order) a) (rational_at (number_of order) b) a b
    8 (rational_shifted order a b) count (e + 8) (q + 8) (part a b e q 8 (8 * count) (omega arith) m))
type_moved order field_type.SByte count a b e q m h =
    ap value.SByte (items_shifted (λ p. cast_signed w8 (slice_index a p))
    (λ p. cast_signed w8 (slice_index b p)) a b 1 (λ x y s. ap (cast_signed w8) (single x y s)) count
    (e + 8) (q + 8) (part a b e q 8 (1 * count) (omega arith) m))
  where
    single : (x y : ℕ) → Shifted a b x y 1 → slice_index a x ≡ slice_index b y
    single x y s =
        let k : x + 0 ≡ x = omega arith in
        let l : y + 0 ≡ y = omega arith in
        let r = s 0 (omega arith) in
        rw (k, l) at r
type_moved order field_type.Undefined count a b e q m h =
    short_offset count a (e + 8) (e + 8) (omega arith)
    ∙ (ap (λ xs. value.Undefined xs 8) (bytes_moved a b e q count (omega arith) m)
    ∙ sym (short_offset count b (q + 8) (q + 8) (omega arith)))
type_moved order field_type.SShort count a b e q m h =
    ap value.SShort (items_shifted (λ p. cast_signed w16 (number_at (number_of order) 2 a p))
    (λ p. cast_signed w16 (number_at (number_of order) 2 b p)) a b 2
    (λ x y s. ap (cast_signed w16) (number_shifted order 2 a b x y s)) count (e + 8) (q + 8)
    (part a b e q 8 (2 * count) (omega arith) m))
type_moved order field_type.SLong count a b e q m h =
    ap value.SLong (items_shifted (λ p. cast_signed w32 (number_at (number_of order) 4 a p))
    (λ p. cast_signed w32 (number_at (number_of order) 4 b p)) a b 4
    (λ x y s. ap (cast_signed w32) (number_shifted order 4 a b x y s)) count (e + 8) (q + 8)
    (part a b e q 8 (4 * count) (omega arith) m))
type_moved order field_type.SRational count a b e q m h =
    ap value.SRational (items_shifted (srational_at (number_of order) a) (srational_at (number_of order) b) a
    b 8 (srational_shifted order a b) count (e + 8) (q + 8) (part a b e q 8 (8 * count) (omega arith) m))
type_moved order field_type.Float count a b e q m h =
    ap value.Float (items_shifted (number_at (number_of order) 4 a) (number_at (number_of order) 4 b) a b 4
    (number_shifted order 4 a b) count (e + 8) (q + 8) (part a b e q 8 (4 * count) (omega arith) m))
type_moved order field_type.Double count a b e q m h =
    ap value.Double (items_shifted (number_at (number_of order) 8 a) (number_at (number_of order) 8 b) a b 8
    (number_shifted order 8 a b) count (e + 8) (q + 8) (part a b e q 8 (8 * count) (omega arith) m))

known_moved : (order : Order) (o : Option FieldType) (type count : ℕ) (a b : List ℕ) (e q : ℕ)
    → IsMoved a b e q → known_length o * count ≤ 4
    → value_at_entry 0 (elim o as (λ x. Value)
    [ Some t ↦ decode_as (number_of order) t count a (e + 8) | None ↦ value.Unknown type count (e + 8) ])
    ≡ value_at_entry 0 (elim o as (λ x. Value)
    [ Some t ↦ decode_as (number_of order) t count b (q + 8) | None ↦ value.Unknown type count (q + 8) ])
known_moved order None type count a b e q m h = refl
known_moved order (Some t) type count a b e q m h = type_moved order t count a b e q m h

-- ---- values, wherever they are

-- both are one value but for the offset of its entry, or none
abbrev pub AreTold : Option Value → Option Value → Type 0
AreTold (Some v) (Some w) = value_at_entry 0 v ≡ value_at_entry 0 w
AreTold None None = Unit {0}
AreTold _ _ = ⊥

told_by_tests : (s t : Bool) (v w x y : Value) → (s ≡ true → value_at_entry 0 v ≡ value_at_entry 0 w)
    → (s ≡ false → t ≡ true → x ≡ y)
    → AreTold (if s then Some v else (if t then Some x else None))
    (if s then Some w else (if t then Some y else None))
told_by_tests true t v w x y h k = h refl
told_by_tests false true v w x y h k = ap (value_at_entry 0) (k refl refl)
told_by_tests false false v w x y h k = tt

outside_same : (a b : List ℕ) (s t : Bool) (offset size : ℕ) → s ≡ true → t ≡ true
    → AllByRecursion (Agree a b) (if s && t then record { offset = offset; len = size } ∷ [] else [])
    → Same a b offset size
outside_same a b true true offset size e f h = same_of a b offset size h.0
outside_same a b true false offset size e f h = absurd (false≢true f)
outside_same a b false t offset size e f h = absurd (false≢true e)

-- a moved entry has the same value but for its offset, if its bytes elsewhere have stayed
pub value_moved : (order : Order) (a b : List ℕ) (e q : ℕ) → length a ≡ length b → IsMoved a b e q
    → AllByRecursion (Agree a b) (value_stretch (number_of order) a e)
    → AreTold (entry_value (number_of order) a e) (entry_value (number_of order) b q)
value_moved order a b e q as_long m v =
    let type = number_at (number_of order) 2 a (e + 2) in
    let count = number_at (number_of order) 4 a (e + 4) in
    let offset = number_at (number_of order) 4 a (e + 8) in
    let size = known_length (type_of type) * count in
    let types = number_moved order 2 a b e q 2 (omega arith) m in
    let counts = number_moved order 4 a b e q 4 (omega arith) m in
    let offsets = number_moved order 4 a b e q 8 (omega arith) m in
    rw (← types, ← counts, ← offsets, ← as_long)
    (told_by_tests (nat_le size 4) (nat_le (offset + size) (length a))
    (decode (number_of order) type count a (e + 8)) (decode (number_of order) type count b (q + 8))
    (decode (number_of order) type count a offset) (decode (number_of order) type count b offset)
    (λ s. known_moved order (type_of type) type count a b e q m (grind (arith, nat_tests)))
    (λ s t. decode_same order type count a b offset as_long
    (outside_same a b (nat_lt 4 size) (nat_le (offset + size) (length a)) offset size
    (grind (arith, nat_tests)) t v)))

-- the number in it is the same
number_told : (v : Value) → number_in (value_at_entry 0 v) 0 ≡ number_in v 0
number_told (value.Undefined xs offset) = refl
number_told (value.Unknown type count offset) = refl
number_told _ = refl

-- values that differ only in the offset of their entries have the same first number
pub number_in_told : (v w : Value) → value_at_entry 0 v ≡ value_at_entry 0 w → number_in v 0 ≡ number_in w 0
number_in_told v w h = sym (number_told v) ∙ (ap (λ x. number_in x 0) h ∙ number_told w)
