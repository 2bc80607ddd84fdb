-- What is counted and measured of groups, and when numbers of 32 bits hold it.
use Rattle.std.proofs.Common.{◌≡◌, ℕ, ◌<◌, List, [], ◌∷◌, refl, sym, ap, ◌∙◌, arith, Bool, true, false, Some, None}
use Rattle.std.specs.Prelude.{if◌then◌else◌, nat_lt, ◌||◌, ◌==◌}
use Rattle.std.proofs.lemmas.Bool.{ne_eqb}
use Rattle.std.specs.List.{list_any}
use denote.Ref.{Bor}
use Rattle.exif_types.specs.declared.field.Field.{Field}
use Rattle.exif_table.specs.declared.context.Context.TheVariants.{Tiff, Exif, Gps, Interop}
use Rattle.exif_layout.specs.declared.write_fault.WriteFault.TheVariants.{EmptyDirectory, TooManyFields, UnknownType}
use Rattle.exif_layout.specs.Groups.{Group, pushed_in}
use Rattle.exif_layout.specs.Counting.{entry_count, tiff_count}
use Rattle.exif_layout.specs.Refused.{group_fault, any_unknown, any_over, contexts, is_unknown}
use Rattle.exif_layout.proofs.Images.Counting.{count_is}
use Rattle.exif_layout.specs.Views.{entries_in}

-- pushed fields with a value of an unknown type
pub unknown_in : (fields : List (Bor Field)) → list_any (λ field. is_unknown field.now.value) fields ≡ any_unknown (entries_in fields)
unknown_in [] = refl
unknown_in (field ∷ fields) = ap (λ b. is_unknown field.now.value || b) (unknown_in fields)

over_is : (group : Group) → list_any (λ context. nat_lt 65535 (entry_count group context)) contexts ≡ any_over group
over_is group = λ i.
    nat_lt 65535 ((sym (count_is group Tiff)) i) || (nat_lt 65535 ((sym (count_is group Exif)) i) || (nat_lt 65535 ((sym (count_is group Gps)) i) || (nat_lt 65535 ((sym (count_is group Interop)) i) || false)))

-- the cause of a group, from its counts
module _ (group : Group) where
  is_over : Bool
  is_over = list_any (λ context. nat_lt 65535 (entry_count group context)) contexts

  has_unknown : Bool
  has_unknown = list_any (λ context. any_unknown (pushed_in group context)) contexts

  fault_is : (a b c : Bool) → (tiff_count group == 0) ≡ a → is_over ≡ b → has_unknown ≡ c
      → (if a then Some EmptyDirectory else (if b then Some TooManyFields else (if c then Some UnknownType else None))) ≡ group_fault group
  unfolding group_fault is_over has_unknown
  fault_is a b c h k l =
      (λ i. if (sym h) i then Some EmptyDirectory else (if (sym k) i then Some TooManyFields else (if (sym l) i then Some UnknownType else None)))
      ∙ (λ i. if (sym (count_is group Tiff)) i == 0 then Some EmptyDirectory
      else (if over_is group i then Some TooManyFields else (if list_any (λ context. any_unknown (pushed_in group context)) contexts then Some UnknownType else None)))

  -- a group whose directory of the chain has no entry is refused as an empty directory
  pub fault_empty : (n : ℕ) → n ≡ tiff_count group → n ≡ 0 → Some EmptyDirectory ≡ group_fault group
  fault_empty n e z = fault_is true is_over has_unknown (ap (λ m. m == 0) (sym e ∙ z)) refl refl

  some_count : (n : ℕ) → 0 < n → n == 0 ≡ false
  some_count n h = ne_eqb n 0 (λ none. absurd (omega arith))

  -- a group that has some there, but over 65535 in a directory, is refused for too many fields
  pub fault_over : (n : ℕ) → n ≡ tiff_count group → 0 < n → list_any (λ context. nat_lt 65535 (entry_count group context)) contexts ≡ true
      → Some TooManyFields ≡ group_fault group
  unfolding is_over
  fault_over n e h over = fault_is false true has_unknown (ap (λ m. m == 0) (sym e) ∙ some_count n h) over refl

  -- a group with none of these faults is refused only for a pushed value of an unknown type
  pub fault_of_types : (n : ℕ) (c : Bool) → n ≡ tiff_count group → 0 < n → list_any (λ context. nat_lt 65535 (entry_count group context)) contexts ≡ false
      → list_any (λ context. any_unknown (pushed_in group context)) contexts ≡ c → (if c then Some UnknownType else None) ≡ group_fault group
  unfolding is_over has_unknown
  fault_of_types n c e h over unknown = fault_is false false c (ap (λ m. m == 0) (sym e) ∙ some_count n h) over unknown
