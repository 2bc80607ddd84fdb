-- The properties that attributes are (XMP Specification, Part 1, 7.9.2.2).
use Rattle.std.specs.Prelude.{ℕ, List, [], ◌∷◌, Option, Some, None, Result, Ok}
use Rattle.exif_xml.specs.declared.attribute.Attribute.{Attribute}
use Rattle.exif_xml.specs.declared.span.Span.{Span}
use Rattle.exif_xml.specs.Refusals.{◌>>=◌}
use Rattle.exif_xmp.specs.declared.fault.Refusal.{Refusal}
use Rattle.exif_xmp.specs.declared.frame.Role.{Role}
use Rattle.exif_xmp.specs.declared.frame.Role.TheVariants.{Outside, Rdf, Node, Property, Array, Unread, Inside}
use Rattle.exif_xmp.specs.declared.path.Step.TheVariants as steps
use Rattle.exif_xmp.specs.declared.property.Form.TheVariants.{Text}
use Rattle.exif_xmp.specs.declared.property.Spans.{Spans}
use Rattle.exif_xmp.specs.declared.role.Facts.{Facts}
use Rattle.exif_xmp.specs.declared.role.Meaning.{Meaning}
use Rattle.exif_xmp.specs.declared.role.Meaning.TheVariants as meanings
use Rattle.exif_xmp.specs.Refusals.{located}
use Rattle.exif_xmp.specs.Roles.{meaning_of}
use Rattle.exif_xmp.specs.States.{StateView, with_property}

-- an attribute has the language of its element (Extensible Markup Language 1.0, 2.12)
abbrev pub attribute_spans : StateView → Attribute → Spans
attribute_spans s a = record {
  value = a.value;
  whole = record { start = a.name.start; end = a.value.end };
  language = s.top.language;
  form = Text;
}

abbrev pub with_meant : List ℕ → StateView → Attribute → Meaning → Result StateView Refusal
with_meant packet s a meanings.Value = with_property packet s steps.Nothing (attribute_spans s a)
with_meant packet s a (meanings.Field name) =
    with_property packet s (steps.Named name) (attribute_spans s a)
with_meant packet s a meanings.Ignored = Ok s
with_meant packet s a meanings.Language = Ok s
with_meant packet s a meanings.Resource = Ok s
with_meant packet s a meanings.ParseType = Ok s

-- the state with the property that an attribute is, if it is one
unfoldable pub with_attribute : List ℕ → StateView → Attribute → Result StateView Refusal
with_attribute packet s a =
    located a.name.start (meaning_of packet s.bindings a) >>= λ m. with_meant packet s a m

abbrev pub with_attributes : List ℕ → StateView → List Attribute → Result StateView Refusal
with_attributes packet s [] = Ok s
with_attributes packet s (a ∷ as') =
    with_attribute packet s a >>= λ t. with_attributes packet t as'

-- the state with the property whose value is `rdf:resource`
abbrev pub with_resource : List ℕ → StateView → Option Span → Result StateView Refusal
with_resource packet s None = Ok s
with_resource packet s (Some value) =
    with_property packet s steps.Nothing (record {
      value = value;
      whole = record { start = s.top.start; end = s.top.content };
      language = s.top.language;
      form = Text;
    })

abbrev pub fields_in : Role → List ℕ → StateView → Facts → List Attribute
    → Result StateView Refusal
fields_in Property packet s facts as' =
    with_resource packet s facts.resource >>= λ t. with_attributes packet t as'
fields_in Node packet s facts as' = with_attributes packet s as'
fields_in Outside packet s facts as' = Ok s
fields_in Rdf packet s facts as' = Ok s
fields_in Array packet s facts as' = Ok s
fields_in Unread packet s facts as' = Ok s
fields_in Inside packet s facts as' = Ok s

-- the state with the properties that the attributes of the open element are
abbrev pub with_fields : List ℕ → StateView → Facts → List Attribute → Result StateView Refusal
with_fields packet s facts as' = fields_in s.top.role packet s facts as'
