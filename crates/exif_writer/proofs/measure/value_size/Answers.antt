use Rattle.std.proofs.Common.{◌≡◌, ◌∙◌, ℕ, ◌*◌, ◌<◌, ◌^◌, Some, sym, subst}
use Rattle.std.specs.Prelude.{SomeIff}
use Rattle.exif_text.specs.FieldTypes.{unit}
use Rattle.exif_types.specs.ValueTypes.{count_of, field_type_of, type_number}
use Rattle.exif_layout.specs.Encoding.{value_len}
use Rattle.exif_writer.proofs.SendSizes.{known_unit}
use Rattle.exif_writer.proofs.measure.value_size.Goals as goal

pub returns : goal.returns
returns c =
    let typed : field_type_of c.args.value.now ≡ Some c.in_ok-field_type.field-0 = sym c.field_type.ensures ∙ c.in_ok-field_type.was in
    let each : c.unit_length-unit.result ≡ unit (type_number c.args.value.now) = c.unit_length-unit.ensures.value ∙ sym (known_unit c.args.value.now c.in_ok-field_type.field-0 typed) in
    let count : c.in_ok-count.field-0 ≡ count_of c.args.value.now = c.in_ok-count.ensures.1 in
    let all : c.unit_length-unit.result * c.in_ok-count.field-0 ≡ value_len c.args.value.now = λ i. each i * count i in
    let P : ℕ → Type 0 = λ n. SomeIff c.checked_mul.result (n < 2 ^ 32) n in
    subst P all c.checked_mul.ensures
