-- Rules of tags: what holds of the one that is found. Outside their crate the values of a rule have no
-- name, so that what holds of all is shown of each.
use Rattle.std.proofs.Common.{◌≡◌, ℕ, Bool, true, false, List, [], ◌∷◌, find, Option, Some, None, if◌then◌else◌, option_map, refl}
use Rattle.exif_table.specs.declared.context.Context.TheVariants.{Gps, Tiff}
use Rattle.exif_table.specs.declared.kind.TextKind.{TextKind}
use Rattle.exif_table.specs.declared.kind.TextKind.TheVariants as K
use Rattle.exif_types.specs.Lookup.{tag_eq}
use Rattle.exif_types.specs.TagRows.{kind_of, row_of_tag}
use Rattle.exif_types.specs.declared.tag.Tag.{Tag}
use Rattle.exif_types.specs.declared.value.Value.{Value}
use Rattle.exif_types.specs.declared.value.Value.TheVariants.{Rational}
use Rattle.exif_assign.specs.Assigning.{or_else}
use Rattle.exif_assign.specs.Fitting.{fits, is_date, is_day_text}
use Rattle.exif_assign.specs.Rules.{form_of, kept_rules, rules}
use Rattle.exif_assign.specs.Texts.{items_in, rational_in}
use Rattle.exif_assign.specs.Values.{ascii_value, date_in, day_in, degrees_value, rational_value, text_in}

-- ---- what is found in a list

-- what holds of each member that passes a test
abbrev pub Each : {A : Type 0} → (A → Bool) → (A → Type 0) → List A → Type 0
Each test P [] = Unit {0}
Each test P (x ∷ xs) = (test x ≡ true → P x) × Each test P xs

-- holds of what is found, if it holds where nothing is
pub found : {A : Type 0} (xs : List A) (test : A → Bool) (P : Option A → Type 0) → P None
    → Each test (λ x. P (Some x)) xs → P (find test xs)
found [] test P none each = none
found {A} (x ∷ xs) test P none each =
    by_test (test x) refl (found xs test P none each.1)
  where
    by_test : (b : Bool) → test x ≡ b → P (find test xs) → P (if b then Some x else find test xs)
    by_test true e rest = each.0 e
    by_test false e rest = rest

-- of two members
infixr 5 ◌⊕◌
abbrev pub ◌⊕◌ : {X Y : Type 0} → X → Y → X × Y
x ⊕ y = (x, y)

-- ---- tags

-- a tag of the directory of context Gps
abbrev pub gps : ℕ → Tag
gps number = record { 0 = Gps; 1 = number }

-- a tag without a rule
abbrev pub unruled : Tag
unruled = record { 0 = Tiff; 1 = 0 }

-- whether degrees are shown as such
abbrev pub shows_degrees : TextKind → Bool
shows_degrees K.GpsDegrees = true
shows_degrees _ = false

-- ---- fractions

-- fractions of a text
abbrev pub fractions_in : List ℕ → Option Value
fractions_in text = option_map Rational (items_in rational_in text)

-- what holds of fractions and of degrees holds of what each tag makes of a text
module _ (tag : Tag) (text : List ℕ) (P : Option Value → Type 0) (fractions : P (fractions_in text))
    (degrees : (number : ℕ) → shows_degrees (kind_of (gps number)) ≡ true
    → tag_eq (gps number) tag ≡ true → P (degrees_value text)) where
  -- of a tag whose fractions are none of degrees
  plain : {X : Type 0} → X → P (fractions_in text)
  plain x = fractions

  pub by_rules : P (rational_value (form_of tag) text)
  unfolding row_of_tag
  by_rules =
      found rules (λ rule. tag_eq rule.0 tag)
      (λ o. P (rational_value (elim (or_else o (find (λ rule. tag_eq rule.0 tag) kept_rules)) [
        | Some rule ↦ rule.2
        | None ↦ form_of unruled
      ]) text))
      (found kept_rules (λ rule. tag_eq rule.0 tag)
      (λ o. P (rational_value (elim o [ Some rule ↦ rule.2 | None ↦ form_of unruled ]) text))
      fractions
      (plain ⊕ plain ⊕ plain ⊕ plain ⊕ plain ⊕ plain ⊕ plain ⊕ plain ⊕ plain ⊕ plain ⊕ plain
      ⊕ plain ⊕ plain ⊕ plain ⊕ plain ⊕ plain ⊕ plain ⊕ plain ⊕ plain ⊕ plain ⊕ plain ⊕ plain
      ⊕ plain ⊕ plain ⊕ plain ⊕ plain ⊕ plain ⊕ plain ⊕ tt))
      (plain ⊕ plain ⊕ plain ⊕ plain ⊕ plain ⊕ plain ⊕ plain ⊕ plain ⊕ plain ⊕ plain ⊕ plain
      ⊕ plain ⊕ plain ⊕ plain ⊕ plain ⊕ plain ⊕ plain ⊕ plain ⊕ plain ⊕ plain ⊕ plain ⊕ plain
      ⊕ plain ⊕ plain ⊕ plain ⊕ plain ⊕ plain ⊕ plain ⊕ plain ⊕ plain ⊕ plain ⊕ plain ⊕ plain
      ⊕ plain ⊕ plain ⊕ plain ⊕ plain ⊕ plain ⊕ plain ⊕ plain ⊕ plain ⊕ plain ⊕ plain ⊕ plain
      ⊕ plain ⊕ plain ⊕ plain ⊕ plain ⊕ plain ⊕ plain ⊕ plain ⊕ plain ⊕ plain ⊕ plain ⊕ plain
      ⊕ plain ⊕ plain ⊕ plain ⊕ plain ⊕ plain ⊕ plain ⊕ plain ⊕ plain ⊕ plain ⊕ plain ⊕ plain
      ⊕ plain ⊕ plain ⊕ plain ⊕ plain ⊕ plain ⊕ plain ⊕ plain ⊕ plain ⊕ plain ⊕ plain ⊕ plain
      ⊕ plain ⊕ plain ⊕ plain ⊕ plain ⊕ plain ⊕ plain ⊕ plain ⊕ plain ⊕ plain
      ⊕ degrees 0x0002 refl ⊕ plain ⊕ degrees 0x0004 refl ⊕ plain ⊕ plain ⊕ plain ⊕ plain
      ⊕ plain ⊕ plain ⊕ plain ⊕ plain ⊕ plain ⊕ plain ⊕ plain ⊕ plain ⊕ plain ⊕ plain ⊕ plain
      ⊕ degrees 0x0014 refl ⊕ plain ⊕ degrees 0x0016 refl ⊕ plain ⊕ plain ⊕ plain ⊕ plain
      ⊕ plain ⊕ plain ⊕ plain ⊕ plain ⊕ plain ⊕ tt)

-- ---- texts

-- what holds of texts, of dates and of days holds of what each tag makes of a text, where it has
-- such values
module _ (tag : Tag) (text : List ℕ) (P : Value → Type 0)
    (texts : (v : Value) → text_in text ≡ Some v → P v)
    (dates : (v : Value) → date_in text ≡ Some v → is_date v ≡ true → P v)
    (days : (v : Value) → day_in text ≡ Some v → is_day_text v ≡ true → P v) where
  any : {X : Type 0} (good : Value → Bool) → X → (v : Value) → text_in text ≡ Some v → good v ≡ true → P v
  any good x v e y = texts v e

  date : {X : Type 0} → X → (v : Value) → date_in text ≡ Some v → is_date v ≡ true → P v
  date x = dates

  day : {X : Type 0} → X → (v : Value) → day_in text ≡ Some v → is_day_text v ≡ true → P v
  day x = days

  pub texts_by_rules : (v : Value) → ascii_value (form_of tag) text ≡ Some v → fits (form_of tag) v ≡ true → P v
  texts_by_rules =
      found rules (λ rule. tag_eq rule.0 tag)
      (λ o. (v : Value) → ascii_value (elim (or_else o (find (λ rule. tag_eq rule.0 tag) kept_rules)) [
        | Some rule ↦ rule.2
        | None ↦ form_of unruled
      ]) text ≡ Some v → fits (elim (or_else o (find (λ rule. tag_eq rule.0 tag) kept_rules)) [
        | Some rule ↦ rule.2
        | None ↦ form_of unruled
      ]) v ≡ true → P v)
      (found kept_rules (λ rule. tag_eq rule.0 tag)
      (λ o. (v : Value) → ascii_value (elim o [ Some rule ↦ rule.2 | None ↦ form_of unruled ]) text ≡ Some v
      → fits (elim o [ Some rule ↦ rule.2 | None ↦ form_of unruled ]) v ≡ true → P v)
      (λ v e f. texts v e)
      (any _ ⊕ any _ ⊕ any _ ⊕ any _ ⊕ any _ ⊕ any _ ⊕ any _ ⊕ any _ ⊕ any _ ⊕ any _ ⊕ any _
      ⊕ any _ ⊕ any _ ⊕ any _ ⊕ any _ ⊕ any _ ⊕ any _ ⊕ any _ ⊕ any _ ⊕ any _ ⊕ any _ ⊕ any _
      ⊕ any _ ⊕ any _ ⊕ any _ ⊕ any _ ⊕ any _ ⊕ any _ ⊕ tt))
      (any _ ⊕ any _ ⊕ any _ ⊕ any _ ⊕ any _ ⊕ any _ ⊕ date ⊕ any _ ⊕ any _ ⊕ any _ ⊕ any _
      ⊕ any _ ⊕ any _ ⊕ any _ ⊕ any _ ⊕ any _ ⊕ any _ ⊕ any _ ⊕ any _ ⊕ any _ ⊕ any _ ⊕ any _
      ⊕ any _ ⊕ any _ ⊕ any _ ⊕ date ⊕ date ⊕ any _ ⊕ any _ ⊕ any _ ⊕ any _ ⊕ any _ ⊕ any _
      ⊕ any _ ⊕ any _ ⊕ any _ ⊕ any _ ⊕ any _ ⊕ any _ ⊕ any _ ⊕ any _ ⊕ any _ ⊕ any _ ⊕ any _
      ⊕ any _ ⊕ any _ ⊕ any _ ⊕ any _ ⊕ any _ ⊕ any _ ⊕ any _ ⊕ any _ ⊕ any _ ⊕ any _ ⊕ any _
      ⊕ any _ ⊕ any _ ⊕ any _ ⊕ any _ ⊕ any _ ⊕ any _ ⊕ any _ ⊕ any _ ⊕ any _ ⊕ any _ ⊕ any _
      ⊕ any _ ⊕ any _ ⊕ any _ ⊕ any _ ⊕ any _ ⊕ any _ ⊕ any _ ⊕ any _ ⊕ any _ ⊕ any _ ⊕ any _
      ⊕ any _ ⊕ any _ ⊕ any _ ⊕ any _ ⊕ any _ ⊕ any _ ⊕ any _ ⊕ any _ ⊕ any _ ⊕ any _ ⊕ any _
      ⊕ any _ ⊕ any _ ⊕ any _ ⊕ any _ ⊕ any _ ⊕ any _ ⊕ any _ ⊕ any _ ⊕ any _ ⊕ any _ ⊕ any _
      ⊕ any _ ⊕ any _ ⊕ any _ ⊕ any _ ⊕ any _ ⊕ any _ ⊕ any _ ⊕ any _ ⊕ any _ ⊕ any _ ⊕ any _
      ⊕ any _ ⊕ any _ ⊕ any _ ⊕ day ⊕ any _ ⊕ any _ ⊕ tt)
