-- Values that are set by what is shown of them.
use Rattle.std.proofs.Common.{◌≡◌, ◌∙◌, true, List, Option, Some, Ok, Err, if◌then◌else◌, option_and_then, refl, sym, ap, subst}
use Rattle.std.proofs.lemmas.Bool.{false≢true}
use Rattle.exif_table.specs.declared.kind.TextKind.TheVariants as K
use Rattle.exif_text.specs.declared.field_type.FieldType.{FieldType}
use Rattle.exif_text.specs.declared.field_type.FieldType.TheVariants as field_type
use Rattle.exif_text.specs.declared.rational.Rational.{Rational as Fraction}
use Rattle.exif_types.specs.Lookup.{last_named}
use Rattle.exif_types.specs.TagRows.{kind_of}
use Rattle.exif_types.specs.ValueTexts.{text_of}
use Rattle.exif_types.specs.ValueTypes.{field_type_of}
use Rattle.exif_types.specs.declared.field.Field.{Field}
use Rattle.exif_types.specs.declared.tag.Tag.{Tag}
use Rattle.exif_types.specs.declared.value.Value.{Value}
use Rattle.exif_types.specs.declared.value.Value.TheVariants.{Byte, Ascii, Short, Long, Rational, SByte, Undefined, SShort, SLong, SRational, Float, Double, Unknown}
use Rattle.exif_assign.specs.Assigning.{or_else}
use Rattle.exif_assign.specs.Rules.{type_of_new}
use Rattle.exif_assign.specs.declared.spelled.ValueError.TheVariants.{OutOfRange}
use Rattle.exif_change.specs.Reading.{primary}
use Rattle.exif_setting.specs.Setting.{field_or, field_typed}
use Rattle.exif_change_laws.specs.Shown.{Fits, HasDecimals, HasField, IsShownAs, IsSingle, IsSpelled, Sets, are_decimals, as_decimals, one}
use Rattle.exif_change_laws.proofs.ShownFits.{decimals_fit}
use Rattle.exif_change_laws.proofs.ShownKinds.{decimals_shown, plainly_shown}
use Rattle.exif_change_laws.proofs.ShownSingle.{single_shown}

-- a value that is shown as one of the same type sets it
set_as_shown : (fields : List Field) (tag : Tag) (f : Field) (new : Value) (type : FieldType)
    → last_named fields tag primary ≡ Some f → field_type_of f.value ≡ Some type
    → field_type_of new ≡ Some type → Fits tag new → IsShownAs tag f.value new
    → Sets fields tag f.value new
set_as_shown fields tag f new type read old typed fit shown =
    ap (λ (o : Option Field). field_typed (tag, text_of tag f.value) (or_else (option_and_then (λ field. field_type_of field.value) o) (type_of_new tag))) read
    ∙ (ap (λ (o : Option FieldType). field_typed (tag, text_of tag f.value) (or_else o (type_of_new tag))) old
    ∙ ap (field_or tag) (shown type typed ∙ ap (λ b. if b then Ok new else Err OutOfRange) fit))

-- values that are shown have a type
spelled_type : (v : Value) → IsSpelled v → (type : FieldType) × (field_type_of v ≡ Some type)
spelled_type (Byte ns) h = (field_type.Byte, refl)
spelled_type (Short ns) h = (field_type.Short, refl)
spelled_type (Long ns) h = (field_type.Long, refl)
spelled_type (SByte ns) h = (field_type.SByte, refl)
spelled_type (SShort ns) h = (field_type.SShort, refl)
spelled_type (SLong ns) h = (field_type.SLong, refl)
spelled_type (Rational rs) h = (field_type.Rational, refl)
spelled_type (SRational rs) h = (field_type.SRational, refl)
spelled_type (Ascii texts) h = absurd (false≢true h)
spelled_type (Undefined bytes offset) h = absurd (false≢true h)
spelled_type (Float bits) h = absurd (false≢true h)
spelled_type (Double bits) h = absurd (false≢true h)
spelled_type (Unknown type count offset) h = absurd (false≢true h)

-- the type of a value and of its decimals
record HasType (v : Value) : Type 0 where
  type : FieldType
  old : field_type_of v ≡ Some type
  new : field_type_of (as_decimals v) ≡ Some type

decimals_type : (v : Value) → are_decimals v ≡ true → HasType v
decimals_type (Rational rs) h = record { type = field_type.Rational; old = refl; new = refl }
decimals_type (SRational rs) h = record { type = field_type.SRational; old = refl; new = refl }
decimals_type (Byte ns) h = absurd (false≢true h)
decimals_type (Short ns) h = absurd (false≢true h)
decimals_type (Long ns) h = absurd (false≢true h)
decimals_type (SByte ns) h = absurd (false≢true h)
decimals_type (SShort ns) h = absurd (false≢true h)
decimals_type (SLong ns) h = absurd (false≢true h)
decimals_type (Ascii texts) h = absurd (false≢true h)
decimals_type (Undefined bytes offset) h = absurd (false≢true h)
decimals_type (Float bits) h = absurd (false≢true h)
decimals_type (Double bits) h = absurd (false≢true h)
decimals_type (Unknown type count offset) h = absurd (false≢true h)

pub plain_set : (fields : List Field) (tag : Tag) (f : Field) → HasField fields tag f → kind_of tag ≡ K.Plain
    → IsSpelled f.value → Sets fields tag f.value f.value
plain_set fields tag f has k h =
    let t = spelled_type f.value h in
    set_as_shown fields tag f f.value t.0 has.read t.1 t.1 has.fits (plainly_shown tag f.value k h)

pub decimals_set : (fields : List Field) (tag : Tag) (f : Field) → HasField fields tag f
    → HasDecimals tag f.value → Sets fields tag f.value (as_decimals f.value)
decimals_set fields tag f has d =
    let t = decimals_type f.value d.decimals in
    set_as_shown fields tag f (as_decimals f.value) t.type has.read t.old t.new
    (decimals_fit tag f.value d.kind d.decimals has.fits) (decimals_shown tag f.value d.kind d.decimals)

pub single_set : (fields : List Field) (tag : Tag) (f : Field) (r new : Fraction) → HasField fields tag f
    → f.value ≡ one r → IsSingle tag r new → Fits tag (one new) → Sets fields tag f.value (one new)
single_set fields tag f r new has is h fit =
    set_as_shown fields tag f (one new) field_type.Rational has.read (ap field_type_of is) refl fit
    (subst (λ (v : Value). IsShownAs tag v (one new)) (sym is) (single_shown tag r new h))
