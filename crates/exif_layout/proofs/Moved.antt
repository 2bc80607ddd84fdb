-- Values that are moved to another offset.
use Rattle.std.proofs.Common.{◌≡◌, ℕ, List, refl}
use Rattle.exif_base.specs.declared.endian.Order.{Order}
use Rattle.exif_types.specs.declared.value.Value.{Value}
use Rattle.exif_types.specs.declared.value.Value.TheVariants.{Byte, Ascii, Short, Long, Rational, SByte, Undefined, SShort, SLong, SRational, Float, Double, Unknown}
use Rattle.exif_layout.specs.Encoding.{encode, value_len, moved_to}
use Rattle.exif_types.specs.ValueTypes.{count_of, type_number}
use Rattle.exif_layout.specs.Refused.{is_unknown}

-- what holds of a value that stays and of bytes with another offset holds of each value that is moved
pub moved_by : (P : Value → Value → Type 0) → ((value : Value) → P value value) → ((xs : List ℕ) (old new : ℕ) → P (Undefined xs old) (Undefined xs new)) → (offset : ℕ) (value : Value) → P value (moved_to offset value)
moved_by P stays bytes offset (Byte xs) = stays (Byte xs)
moved_by P stays bytes offset (Ascii xs) = stays (Ascii xs)
moved_by P stays bytes offset (Short xs) = stays (Short xs)
moved_by P stays bytes offset (Long xs) = stays (Long xs)
moved_by P stays bytes offset (Rational xs) = stays (Rational xs)
moved_by P stays bytes offset (SByte xs) = stays (SByte xs)
moved_by P stays bytes offset (Undefined xs old) = bytes xs old offset
moved_by P stays bytes offset (SShort xs) = stays (SShort xs)
moved_by P stays bytes offset (SLong xs) = stays (SLong xs)
moved_by P stays bytes offset (SRational xs) = stays (SRational xs)
moved_by P stays bytes offset (Float xs) = stays (Float xs)
moved_by P stays bytes offset (Double xs) = stays (Double xs)
moved_by P stays bytes offset (Unknown type count old) = stays (Unknown type count old)

-- moving a value to another offset does not change its bytes
pub encode_moved : (order : Order) (value : Value) (offset : ℕ) → encode order (moved_to offset value) ≡ encode order value
encode_moved order value offset = moved_by (λ v m. encode order m ≡ encode order v) (λ v. refl) (λ xs old new. refl) offset value

-- what a move leaves alone
pub record Same (value moved : Value) : Type 0 where
  pub type : type_number moved ≡ type_number value
  pub count : count_of moved ≡ count_of value
  pub unknown : is_unknown moved ≡ is_unknown value
  pub len : value_len moved ≡ value_len value

-- a moved value has the type, the count and the length that it had
pub same_moved : (value : Value) (offset : ℕ) → Same value (moved_to offset value)
same_moved value offset =
    moved_by Same (λ v. record { type = refl; count = refl; unknown = refl; len = refl }) (λ xs old new. record { type = refl; count = refl; unknown = refl; len = refl }) offset value

-- of two moves of a value only the last one counts
pub moved_twice : (p q : ℕ) (value : Value) → moved_to p (moved_to q value) ≡ moved_to p value
moved_twice p q value = moved_by (λ v m. moved_to p m ≡ moved_to p v) (λ v. refl) (λ xs old new. refl) q value
