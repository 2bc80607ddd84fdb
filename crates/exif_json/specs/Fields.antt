-- The JSON of fields.
use Rattle.std.specs.Prelude.{ℕ, ◌^◌, nat_lt, Bool, List, [], ◌∷◌, ◌++◌, codes, filter, map, Option, None, Some, if◌then◌else◌}
use Rattle.std.specs.List.{list_any}
use Rattle.json.specs.Json as J
use Rattle.json.specs.Json.{Json}
use Rattle.json.specs.Token.{Token}
use Rattle.json.specs.Tree.{json_tokens}
use Rattle.exif_table.specs.Contexts.{context_name}
use Rattle.exif_types.specs.declared.field.Field.{Field}
use Rattle.exif_types.specs.declared.tag.Tag.{Tag}
use Rattle.exif_types.specs.declared.value.Value.{Value}
use Rattle.exif_types.specs.Lookup.{tag_eq}
use Rattle.exif_types.specs.TagTexts.{tag_text}
use Rattle.exif_types.specs.Units.{unit_text}
use Rattle.exif_types.specs.ValueTypes.{type_number, count_of}
use Rattle.exif_json.specs.Trees.{array, object, unsigned}
use Rattle.exif_json.specs.Values.{value_json}

-- where a field is: the kind of its directory, its tag, the tag's name, the directory's number
abbrev pub name_members : Field → List (List ℕ × Json)
name_members field =
    (codes "context", J.string (context_name field.tag.0))
    ∷ (codes "tag", unsigned field.tag.1)
    ∷ (codes "name", J.string (tag_text field.tag))
    ∷ (codes "directory", unsigned field.ifd_num.0) ∷ []

-- how many items a value has, if 32 bits hold the number
abbrev pub count_json : Value → Json
count_json value = if nat_lt (count_of value) (2 ^ 32) then unsigned (count_of value) else J.null

-- what a field holds: its type, how many items, the value, and how it is printed with its unit
abbrev pub contents_members : List Field → Field → List (List ℕ × Json)
contents_members fields field =
    (codes "type", unsigned (type_number field.value))
    ∷ (codes "count", count_json field.value)
    ∷ (codes "value", value_json field.value)
    ∷ (codes "text", J.string (unit_text field fields)) ∷ []

-- one of the fields
unfoldable pub field_json : List Field → Field → Json
field_json fields field = object (name_members field ++ contents_members fields field)

-- all of them in their order
abbrev pub fields_json : List Field → Json
fields_json fields = array (map (field_json fields) fields)

-- whether a field has one of some tags
abbrev pub has_one_of : List Tag → Field → Bool
has_one_of tags field = list_any (λ tag. tag_eq tag field.tag) tags

-- all of the fields, or those with one of some tags, in their order
abbrev pub chosen : Option (List Tag) → List Field → List Field
chosen None fields = fields
chosen (Some tags) fields = filter (has_one_of tags) fields

-- these as objects; the tags of a unit are looked up among all fields
abbrev pub chosen_json : Option (List Tag) → List Field → Json
chosen_json tags fields = array (map (field_json fields) (chosen tags fields))

-- the tokens of a field, if it has one of some tags
abbrev pub chosen_tokens : List Tag → List Field → Field → List Token
chosen_tokens tags fields field =
    if has_one_of tags field then json_tokens (field_json fields field) else []
