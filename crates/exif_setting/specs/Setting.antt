-- What the program sets: values over the old ones where they fit, and in Exif data that become
-- longer.
use Rattle.std.specs.Prelude.{ℕ, Bool, true, false, List, [], ◌∷◌, ◌++◌, Option, Some, None, Result, Ok, Err, if◌then◌else◌}
use Rattle.std.specs.Borrow.{Bor}
use Rattle.std.specs.List.{list_any}
use Rattle.std.specs.Option.{option_and_then}
use Rattle.exif_text.specs.declared.field_type.FieldType.{FieldType}
use Rattle.exif_text.specs.declared.ifd.In.{In}
use Rattle.exif_types.specs.Contents.{ExifContents}
use Rattle.exif_types.specs.Lookup.{is_named, last_named, tag_eq}
use Rattle.exif_types.specs.Refusals as types
use Rattle.exif_types.specs.Refusals.{not_found}
use Rattle.exif_types.specs.ValueTypes.{field_type_of}
use Rattle.exif_types.specs.declared.field.Field.{Field}
use Rattle.exif_types.specs.declared.tag.Tag.{Tag}
use Rattle.exif_types.specs.declared.value.Value.{Value}
use Rattle.exif_containers.specs.Container.{format_in}
use Rattle.exif_containers.specs.declared.container.Format.{Format}
use Rattle.exif_assign.specs.Assigning.{or_else, parts_of}
use Rattle.exif_assign.specs.Rules.{type_of_new}
use Rattle.exif_assign.specs.Values.{value_in}
use Rattle.exif_assign.specs.declared.assignment.Assignment.{Assignment}
use Rattle.exif_assign.specs.declared.spelled.ValueError.{ValueError}
use Rattle.exif_assign.specs.declared.spelled.ValueError.TheVariants as value_error
use Rattle.exif_change.specs.Changed.{Change, whole}
use Rattle.exif_setting.specs.Growing.{grown_file}
use Rattle.exif_setting.specs.InPlace.{field_set, fitting_set}
use Rattle.exif_change.specs.Reading.{Contents, fields_read, file_contents, primary}
use Rattle.exif_change.specs.Refusals.{Reason, as_edited, as_read, no_field, not_of_its_type, out_of_range, reading, unknown_format, ◌>>=◌}

-- whether a value is assigned to a tag
abbrev pub is_assigned : List Assignment → Tag → Bool
is_assigned assignments tag = list_any (λ assignment. tag_eq tag assignment.tag) assignments

-- the type that a field has in a file
abbrev pub known_type : List Field → Tag → Option FieldType
known_type fields tag =
    option_and_then (λ field. field_type_of field.value) (last_named fields tag primary)

-- the type that a field has in a file, or that a new one has
abbrev pub type_for : List Field → Tag → Option FieldType
type_for fields tag = or_else (known_type fields tag) (type_of_new tag)

-- a field of the primary image with the value that a text spells, or why it spells none
abbrev pub field_or : Tag → Result Value ValueError → Result Field Reason
field_or tag (Ok value) = Ok (record { tag = tag; ifd_num = primary; value = value })
field_or tag (Err value_error.NotOfItsType) = Err (not_of_its_type tag)
field_or tag (Err value_error.OutOfRange) = Err (out_of_range tag)
field_or tag (Err value_error.OutOfMemory) = Err (not_of_its_type tag)

-- the same by its type, if it has one
abbrev pub field_typed : Tag × List ℕ → Option FieldType → Result Field Reason
field_typed (tag, text) None = Err no_field
field_typed (tag, text) (Some type) = field_or tag (value_in tag type text)

-- the field that an assignment sets in a file with these fields
abbrev pub field_for : List Field → Tag × List ℕ → Result Field Reason
field_for fields (tag, text) = field_typed (tag, text) (type_for fields tag)

-- whether a second field of a name is among fields, or a first one where one was seen before
abbrev pub occurs_again : Tag → Bool → List Field → Bool
occurs_again tag seen [] = false
occurs_again tag seen (f ∷ fs) =
    if is_named tag primary f then (if seen then true else occurs_again tag true fs)
    else occurs_again tag seen fs

-- fields that are to be set in a file with these fields, and one more: in place, or in the data
-- where more than one field of the file has its name
abbrev pub with_field : List Field → Field → List Field × List Field → List Field × List Field
with_field fields field (single, repeated) =
    if occurs_again field.tag false fields then (single, repeated ++ field ∷ [])
    else (single ++ field ∷ [], repeated)

-- such fields with the one of an assignment, unless a later one has its tag
abbrev pub with_assigned : List Field → Assignment → List Assignment → List Field × List Field
    → Result (List Field × List Field) Reason
with_assigned fields assignment later sets =
    if is_assigned later assignment.tag then Ok sets
    else field_for fields (parts_of assignment) >>= λ field. Ok (with_field fields field sets)

-- such fields with those of assignments, of those of one tag the last
abbrev pub assigned_behind : List Field → List Assignment → List Field × List Field
    → Result (List Field × List Field) Reason
assigned_behind fields [] sets = Ok sets
assigned_behind fields (assignment ∷ later) sets =
    with_assigned fields assignment later sets >>= assigned_behind fields later

-- the fields of a file, of which there are none where it has no Exif data
abbrev pub fields_or_none : Result Contents types.Refusal → Result (List Field) Reason
fields_or_none (Ok contents) = Ok contents.fields
fields_or_none (Err (not_found what)) = Ok []
fields_or_none (Err refusal) = Err (reading refusal)

-- the fields that assignments set in a file: in place, and in its data
abbrev pub assigned_fields : List ℕ → List Assignment → Result (List Field × List Field) Reason
assigned_fields file assignments =
    fields_or_none (file_contents file)
    >>= λ fields. assigned_behind fields assignments ([], [])

-- a file in which fields that were left over are set
abbrev pub set_rest : Format → List ℕ × List Field → Result Change Reason
set_rest format (file, []) = Ok (whole file)
set_rest format (file, field ∷ fields) = grown_file format (field ∷ fields) file

-- a file in which fields are set, in place and in its data; of those names that more than one field
-- has, all are left over at first
abbrev pub sets_set : Format → List Field × List Field → List ℕ → Result Change Reason
sets_set format sets file = as_edited (fitting_set sets.0 (file, sets.1)) >>= set_rest format

-- a file of a format with values set
abbrev pub set_as : Format → List Assignment → List ℕ → Result Change Reason
set_as format assignments file =
    assigned_fields file assignments >>= (λ sets. sets_set format sets file)

-- a file with values set: over the old ones where they fit, or else in Exif data that become longer
abbrev pub set_file : List Assignment → List ℕ → Result Change Reason
set_file assignments file =
    elim (format_in file) [ Some format ↦ set_as format assignments file | None ↦ Err unknown_format ]

-- the field that an assignment sets in a file that has Exif data
abbrev pub field_here : Tag × List ℕ → List ℕ → Result Field Reason
field_here parts file =
    as_read (file_contents file) >>= λ contents. field_for contents.fields parts

-- a file with one field set in place
abbrev pub set_here : Tag × List ℕ → List ℕ → Result (List ℕ) Reason
set_here parts file = field_here parts file >>= λ field. as_edited (field_set field file)
