-- An entry whose bytes are in the data, with its value where it says, is read as it was written.
use Rattle.std.proofs.Common.{◌≡◌, ℕ, ◌+◌, ◌-◌, ◌*◌, ◌<◌, ◌≤◌, ◌^◌, List, ◌∷◌, ◌++◌, length, replicate, refl, sym, ap, ◌∙◌, arith, Bool, true, false, Some}
use Rattle.std.specs.Prelude.{if◌then◌else◌, nat_le}
use Rattle.std.proofs.lemmas.Bool.{le-leb, leb-true}
use Rattle.exif_base.specs.declared.endian.Order.{Order}
use Rattle.exif_base.specs.Bytes.{Reading, number_at}
use Rattle.exif_base.specs.Orders.{number_of}
use Rattle.exif_text.specs.FieldTypes.{type_of, known_length}
use Rattle.exif_tiff.specs.Decode.{decode}
use Rattle.exif_types.specs.declared.value.Value.{Value}
use Rattle.exif_types.specs.declared.value.Value.TheVariants.{Byte, Ascii, Short, Long, Rational, SByte, Undefined, SShort, SLong, SRational, Float, Double, Unknown}
use Rattle.exif_table.specs.declared.context.Context.{Context}
use Rattle.exif_tiff.specs.Trace.{Directory, Visit, child_of, tagged_nodes, valued_nodes, entry_nodes, entry_value}
use Rattle.exif_layout.specs.Encoding.{spelled, encode, value_len, moved_to}
use Rattle.exif_types.specs.ValueTypes.{type_number, count_of}
use Rattle.exif_layout.specs.Offsets.{Written}
use Rattle.exif_layout.specs.Image.{entry_text}
use Rattle.exif_layout.specs.Refused.{is_unknown}
use Rattle.exif_layout.specs.Layout.{Stands}
use Rattle.exif_layout.proofs.Images.Words.{Fits}
use Rattle.exif_layout.proofs.Images.Standing.{stands_left, stands_right, number_read, length_spelled}
use Rattle.exif_layout.proofs.Images.Values.{decode_read, length-encode}

-- a value that fits is of a known type
pub fits_known : (value : Value) → Fits value → is_unknown value ≡ false
fits_known (Unknown type count offset) h = absurd h
fits_known (Byte xs) h = refl
fits_known (Ascii xs) h = refl
fits_known (Short xs) h = refl
fits_known (Long xs) h = refl
fits_known (Rational xs) h = refl
fits_known (SByte xs) h = refl
fits_known (Undefined xs offset) h = refl
fits_known (SShort xs) h = refl
fits_known (SLong xs) h = refl
fits_known (SRational xs) h = refl
fits_known (Float xs) h = refl
fits_known (Double xs) h = refl

-- a value has no more items than bytes, and a type below 13
pub record IsCounted (value : Value) : Type 0 where
  pub type : type_number value ≤ 12
  pub count : count_of value ≤ value_len value

-- a value that fits has a type of at most 12, and no more items than bytes
pub counted : (value : Value) → Fits value → IsCounted value
counted (Unknown type count offset) h = absurd h
counted (Byte xs) h = record { type = omega arith; count = omega arith }
counted (Ascii xs) h = record { type = omega arith; count = omega arith }
counted (Short xs) h = record { type = omega arith; count = omega arith }
counted (Long xs) h = record { type = omega arith; count = omega arith }
counted (Rational xs) h = record { type = omega arith; count = omega arith }
counted (SByte xs) h = record { type = omega arith; count = omega arith }
counted (Undefined xs offset) h = record { type = omega arith; count = omega arith }
counted (SShort xs) h = record { type = omega arith; count = omega arith }
counted (SLong xs) h = record { type = omega arith; count = omega arith }
counted (SRational xs) h = record { type = omega arith; count = omega arith }
counted (Float xs) h = record { type = omega arith; count = omega arith }
counted (Double xs) h = record { type = omega arith; count = omega arith }

same_decode : (number : Reading) (bytes : List ℕ) (t t' c c' p p' : ℕ) → t ≡ t' → c ≡ c' → p ≡ p' → decode number t c bytes p ≡ decode number t' c' bytes p'
same_decode number bytes t t' c c' p p' a b d = λ i. decode number (a i) (b i) bytes (d i)

module _ (order : Order) (bytes : List ℕ) (small : length bytes < 256 ^ 4) where
  -- what the last 4 bytes of an entry say
  pub value_is : (entry : Written) (e : ℕ) → Fits entry.value
      → number_at (number_of order) 2 bytes (e + 2) ≡ type_number entry.value
      → number_at (number_of order) 4 bytes (e + 4) ≡ count_of entry.value
      → (fits : Bool) → nat_le (value_len entry.value) 4 ≡ fits
      → Stands bytes (e + 8) (if fits then encode order entry.value ++ replicate (4 - value_len entry.value) 0 else spelled order 4 entry.offset)
      → (fits ≡ true → entry.offset ≡ e + 8)
      → (fits ≡ false → Stands bytes entry.offset (encode order entry.value))
      → entry_value (number_of order) bytes e ≡ Some (moved_to entry.offset entry.value)
  value_is entry e h type count true fit s inside outside =
      let size : known_length (type_of (number_at (number_of order) 2 bytes (e + 2))) * number_at (number_of order) 4 bytes (e + 4) ≡ value_len entry.value =
      (λ i. known_length (type_of (type i)) * count i) in
      let same : nat_le (known_length (type_of (number_at (number_of order) 2 bytes (e + 2))) * number_at (number_of order) 4 bytes (e + 4)) 4 ≡ true = ap (λ n. nat_le n 4) size ∙ fit in
      let here = inside refl in
      let stands : Stands bytes entry.offset (encode order entry.value) = rw here (stands_left bytes (encode order entry.value) _ (e + 8) s) in
      rw same (ap Some (same_decode (number_of order) bytes _ _ _ _ (e + 8) entry.offset type count (sym here) ∙ decode_read order bytes entry.value entry.offset h stands))
  value_is entry e h type count false fit s inside outside =
      let size : known_length (type_of (number_at (number_of order) 2 bytes (e + 2))) * number_at (number_of order) 4 bytes (e + 4) ≡ value_len entry.value =
      (λ i. known_length (type_of (type i)) * count i) in
      let same : nat_le (known_length (type_of (number_at (number_of order) 2 bytes (e + 2))) * number_at (number_of order) 4 bytes (e + 4)) 4 ≡ false = ap (λ n. nat_le n 4) size ∙ fit in
      let there = outside refl in
      let within = there.within in
      let len = length-encode order entry.value (fits_known entry.value h) in
      let offset : number_at (number_of order) 4 bytes (e + 8) ≡ entry.offset = number_read order 4 entry.offset (e + 8) bytes (omega arith) s in
      let enough : nat_le (number_at (number_of order) 4 bytes (e + 8) + known_length (type_of (number_at (number_of order) 2 bytes (e + 2))) * number_at (number_of order) 4 bytes (e + 4)) (length bytes) ≡ true =
      (λ i. nat_le (offset i + size i) (length bytes)) ∙ le-leb (entry.offset + value_len entry.value) (length bytes) (omega arith) in
      rw (same, enough) (ap Some (same_decode (number_of order) bytes _ _ _ _ _ entry.offset type count offset ∙ decode_read order bytes entry.value entry.offset h there))

  short_value : (entry : Written) → Fits entry.value → (nat_le (value_len entry.value) 4 ≡ false → Stands bytes entry.offset (encode order entry.value))
      → (fits : Bool) → nat_le (value_len entry.value) 4 ≡ fits → value_len entry.value < 256 ^ 4
  short_value entry h outside true e = let low = leb-true (value_len entry.value) 4 e in omega arith
  short_value entry h outside false e =
      let within = (outside e).within in
      let len = length-encode order entry.value (fits_known entry.value h) in
      omega arith

  -- the numbers of an entry whose bytes are in the data, and its last 4 bytes
  pub record IsSpelled (entry : Written) (e : ℕ) : Type 0 where
    pub tag : number_at (number_of order) 2 bytes e ≡ entry.tag
    pub type : number_at (number_of order) 2 bytes (e + 2) ≡ type_number entry.value
    pub count : number_at (number_of order) 4 bytes (e + 4) ≡ count_of entry.value
    pub element : Stands bytes (e + 8) (if nat_le (value_len entry.value) 4 then encode order entry.value ++ replicate (4 - value_len entry.value) 0 else spelled order 4 entry.offset)

  -- where an entry that fits is in the data with its value, its tag, type and count are read as written
  pub entry_spelled : (entry : Written) (e : ℕ) → entry.tag < 256 ^ 2 → Fits entry.value → Stands bytes e (entry_text order entry)
      → (nat_le (value_len entry.value) 4 ≡ false → Stands bytes entry.offset (encode order entry.value)) → IsSpelled entry e
  entry_spelled entry e tag h s outside =
      let counts = counted entry.value h in
      let type_low = counts.type in
      let count_low = counts.count in
      let a : List ℕ = spelled order 2 entry.tag in
      let b : List ℕ = spelled order 2 (type_number entry.value) in
      let c : List ℕ = spelled order 4 (count_of entry.value) in
      let d : List ℕ = if nat_le (value_len entry.value) 4 then encode order entry.value ++ replicate (4 - value_len entry.value) 0 else spelled order 4 entry.offset in
      let al : length a ≡ 2 = length_spelled order 2 entry.tag in
      let bl : length b ≡ 2 = length_spelled order 2 (type_number entry.value) in
      let cl : length c ≡ 4 = length_spelled order 4 (count_of entry.value) in
      let bs : Stands bytes (e + 2) (b ++ (c ++ d)) = stands_right bytes a (b ++ (c ++ d)) e (e + 2) s (omega arith) in
      let cs : Stands bytes (e + 4) (c ++ d) = stands_right bytes b (c ++ d) (e + 2) (e + 4) bs (omega arith) in
      let few : value_len entry.value < 256 ^ 4 = short_value entry h outside (nat_le (value_len entry.value) 4) refl in
      record {
        tag = number_read order 2 entry.tag e bytes tag (stands_left bytes a (b ++ (c ++ d)) e s);
        type = number_read order 2 (type_number entry.value) (e + 2) bytes (omega arith) (stands_left bytes b (c ++ d) (e + 2) bs);
        count = number_read order 4 (count_of entry.value) (e + 4) bytes (omega arith) (stands_left bytes c d (e + 4) cs);
        element = stands_right bytes c d (e + 4) (e + 8) cs (omega arith);
      }

  -- what reading finds as the value of an entry
  pub value_at : (entry : Written) (e : ℕ) → Fits entry.value → IsSpelled entry e
      → (nat_le (value_len entry.value) 4 ≡ true → entry.offset ≡ e + 8)
      → (nat_le (value_len entry.value) 4 ≡ false → Stands bytes entry.offset (encode order entry.value))
      → entry_value (number_of order) bytes e ≡ Some (moved_to entry.offset entry.value)
  value_at entry e h is inside outside = value_is entry e h is.type is.count (nat_le (value_len entry.value) 4) refl is.element inside outside

  -- an entry is read as it was written
  pub entry_is : (inner : Directory) (context : Context) (ifd directory : ℕ) (entry : Written) (e : ℕ)
      → entry.tag < 256 ^ 2 → Fits entry.value → Stands bytes e (entry_text order entry)
      → (nat_le (value_len entry.value) 4 ≡ true → entry.offset ≡ e + 8)
      → (nat_le (value_len entry.value) 4 ≡ false → Stands bytes entry.offset (encode order entry.value))
      → entry_nodes inner (number_of order) bytes context ifd directory e
      ≡ (Visit ∷ tagged_nodes inner (number_of order) bytes context ifd directory entry.tag e (moved_to entry.offset entry.value) (child_of context entry.tag))
  entry_is inner context ifd directory entry e tag h s inside outside =
      let is = entry_spelled entry e tag h s outside in
      let value = value_at entry e h is inside outside in
      λ i. Visit ∷ valued_nodes inner (number_of order) bytes context ifd directory (is.tag i) e (value i)
