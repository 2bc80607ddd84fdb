-- Tags of fractions: their texts are read as fractions, and those of degrees otherwise too.
use Rattle.std.proofs.Common.{◌≡◌, ◌∙◌, ℕ, false, List, Option, Some, None, option_map, refl, sym, ap}
use Rattle.std.proofs.lemmas.Bool.{false≢true}
use Rattle.exif_types.specs.FieldEq.{tag_Decides}
use Rattle.exif_types.specs.TagRows.{kind_of}
use Rattle.exif_types.specs.declared.tag.Tag.{Tag}
use Rattle.exif_types.specs.declared.value.Value.{Value}
use Rattle.exif_types.specs.declared.value.Value.TheVariants.{Rational}
use Rattle.exif_assign.specs.Rules.{form_of}
use Rattle.exif_assign.specs.Texts.{Quotient, items_in, rational_in}
use Rattle.exif_assign.specs.Values.{degrees_in, degrees_value, rational_value}
use Rattle.exif_change_laws.proofs.RuleLists.{by_rules, fractions_in, gps, shows_degrees}

-- ---- degrees

-- a text that is no degrees
not_degrees : (text : List ℕ) → degrees_in text ≡ None → degrees_value text ≡ fractions_in text
not_degrees text e =
    ap (λ (x : Option (List Quotient)). elim x as (λ _. Option Value) [
      | Some parts ↦ Some (Rational parts)
      | None ↦ option_map Rational (items_in rational_in text)
    ]) e

-- is read as fractions for each tag
pub no_degrees : (tag : Tag) (text : List ℕ) → degrees_in text ≡ None
    → rational_value (form_of tag) text ≡ option_map Rational (items_in rational_in text)
no_degrees tag text e = by_rules tag text (λ v. v ≡ fractions_in text) refl (λ number shown t. not_degrees text e)

-- a text is read as fractions for a tag that is not shown as degrees
pub fractions_of : (tag : Tag) (text : List ℕ) → shows_degrees (kind_of tag) ≡ false
    → rational_value (form_of tag) text ≡ option_map Rational (items_in rational_in text)
fractions_of tag text k =
    by_rules tag text (λ v. v ≡ fractions_in text) refl (λ number shown t.
    absurd (false≢true (sym k
    ∙ (ap (λ (u : Tag). shows_degrees (kind_of u)) (sym ((tag_Decides (gps number) tag).0 t)) ∙ shown))))
