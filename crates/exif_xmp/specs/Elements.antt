-- Elements that begin and end (Extensible Markup Language 1.0, 3; Namespaces in XML 1.0, 6).
use Rattle.std.specs.Prelude.{ℕ, ◌+◌, ◌-◌, ◌==◌, ◌^◌, ◌||◌, nat_le, nat_lt, Bool, true, false, if◌then◌else◌, List, [], ◌∷◌, ◌++◌, length, take, slice_get, Option, Some, None, is_some, Result, Ok, Err}
use Rattle.std.specs.Str.{bytes_eq}
use Rattle.exif_xml.specs.declared.attribute.Attribute.{Attribute}
use Rattle.exif_xml.specs.declared.fault.Fault.TheVariants as xml_faults
use Rattle.exif_xml.specs.declared.name.Binding.{Binding}
use Rattle.exif_xml.specs.declared.span.Span.{Span}
use Rattle.exif_xml.specs.Attributes.{attributes}
use Rattle.exif_xml.specs.Names.{resolve, with_bindings}
use Rattle.exif_xml.specs.Refusals.{◌>>=◌}
use Rattle.exif_xml.specs.Scans.{slice_of}
use Rattle.exif_xmp.specs.declared.elements.Element.{Element}
use Rattle.exif_xmp.specs.declared.fault.Fault.{Fault}
use Rattle.exif_xmp.specs.declared.fault.Fault.TheVariants as faults
use Rattle.exif_xmp.specs.declared.fault.Refusal.{Refusal}
use Rattle.exif_xmp.specs.declared.frame.Frame.{Frame}
use Rattle.exif_xmp.specs.declared.frame.Role.{Role}
use Rattle.exif_xmp.specs.declared.frame.Role.TheVariants.{Outside, Rdf, Node, Property, Array, Unread, Inside}
use Rattle.exif_xmp.specs.declared.path.Step.{Step}
use Rattle.exif_xmp.specs.declared.path.Step.TheVariants as steps
use Rattle.exif_xmp.specs.declared.property.Form.{Form}
use Rattle.exif_xmp.specs.declared.property.Form.TheVariants.{Text}
use Rattle.exif_xmp.specs.declared.property.Form.TheVariants as forms
use Rattle.exif_xmp.specs.declared.property.Spans.{Spans}
use Rattle.exif_xmp.specs.declared.role.Facts.{Facts}
use Rattle.exif_xmp.specs.declared.tag.StartTag.{StartTag}
use Rattle.exif_xmp.specs.Fields.{with_fields}
use Rattle.exif_xmp.specs.Properties.{PropertyView}
use Rattle.exif_xmp.specs.Refusals.{located, of_xml, refused_by_xml}
use Rattle.exif_xmp.specs.Roles.{child_of, facts_of, frame_role}
use Rattle.exif_xmp.specs.States.{StateView, with_property}

-- ---- start tags

-- a start tag of `len` bytes at an offset, whose name has n bytes: its attributes are behind its
-- name, before its `>` or `/>`
abbrev pub start_tag_at : ℕ → ℕ → Bool → ℕ → StartTag
start_tag_at offset n is_empty len = record {
  start = offset;
  name = record { start = offset + 1; end = offset + 1 + n };
  attributes = record {
    start = offset + 1 + n;
    end = offset + len - (if is_empty then 2 else 1);
  };
  content = offset + len;
  is_empty = is_empty;
}

abbrev pub child_in : Role → Frame → Frame
child_in Property top =
    if top.has_text then record top { role = Unread } else record top { has_value = true }
child_in Array top =
    record top { items = if nat_lt (top.items + 1) (2 ^ 64) then top.items + 1 else 2 ^ 64 - 1 }
child_in Outside top = top
child_in Rdf top = top
child_in Node top = top
child_in Unread top = top
child_in Inside top = top

-- an element with one more child: a property with text is not read
abbrev pub with_child : Frame → Frame
with_child top = child_in top.role top

-- the language of an element: its own `xml:lang`, where an empty one means none, or else that of
-- the element that contains it (Extensible Markup Language 1.0, 2.12)
abbrev pub language_in : Option Span → Option Span → Option Span
language_in None outer = outer
language_in (Some own) outer = if own.start == own.end then None else Some own

-- a property with attributes that are properties has no text
abbrev pub element_as : StartTag → ℕ → Step → Facts → Option Span → Role → Element
element_as tag outer step facts language role = record {
  frame = record {
    role = role;
    tag = tag.name;
    step = step;
    bindings = outer;
    items = 0;
    has_value = facts.has_fields || is_some facts.resource;
    has_text = false;
    start = tag.start;
    content = tag.content;
    language = language;
  };
  facts = facts;
}

-- the element of a start tag in the open one, outside which `outer` namespace declarations are in
-- scope: its role there, and what its attributes mean
unfoldable pub element_of : List ℕ → Frame → ℕ → List Binding → List Attribute → StartTag
    → Result Element Fault
element_of packet top outer bs as' tag =
    of_xml (resolve packet bs tag.name) >>= λ name. (child_of packet top name >>= λ child.
    (facts_of packet bs as' >>= λ facts.
    Ok (element_as tag outer child.step facts (language_in facts.language top.language)
    (frame_role packet child.role facts))))

-- the state in an element that begins in the open one
abbrev pub push_element : Frame → List Frame → List Binding → List PropertyView → Frame → StateView
push_element top below bs properties frame = record {
  top = frame;
  below = below ++ with_child top ∷ [];
  bindings = bs;
  properties = properties;
}

-- the state in the element of a start tag with these attributes; the namespace declarations among
-- them hold for its own name
unfoldable pub enter_element : List ℕ → StateView → List Attribute → StartTag
    → Result StateView Refusal
enter_element packet s as' tag =
    let bs = with_bindings packet s.bindings as' in
    if nat_lt 256 (length bs) then Err (record { fault = faults.TooMany; offset = tag.start }) else
    (if nat_le 64 (length s.below)
    then Err (record { fault = faults.TooDeep; offset = tag.start }) else
    (located tag.start (element_of packet s.top (length s.bindings) bs as' tag) >>= λ e.
    with_fields packet (push_element s.top s.below bs s.properties e.frame) e.facts as'))

-- ---- end tags

-- the state without the open element: the one that contains it is open
abbrev pub popped_to : StateView → ℕ → Option Frame → Result StateView Refusal
popped_to s offset None =
    Err (record { fault = faults.Xml xml_faults.MismatchedTag; offset = offset })
popped_to s offset (Some last) = Ok (record {
  top = last;
  below = take (length s.below - 1) s.below;
  bindings = take s.top.bindings s.bindings;
  properties = s.properties;
})

unfoldable pub pop_element : StateView → ℕ → Result StateView Refusal
pop_element s offset = popped_to s offset (slice_get s.below (length s.below - 1))

-- where the open element is, whose content ends at an offset and whose end tag at `end`
abbrev pub element_spans : Frame → ℕ → ℕ → Form → Spans
element_spans top offset end form = record {
  value = record { start = top.content; end = offset };
  whole = record { start = top.start; end = end };
  language = top.language;
  form = form;
}

abbrev pub content_in : Role → List ℕ → StateView → ℕ → ℕ → Result StateView Refusal
content_in Property packet s offset end =
    if s.top.has_value then Ok s else
    with_property packet s steps.Nothing (element_spans s.top offset end Text)
content_in Unread packet s offset end =
    with_property packet s steps.Nothing (element_spans s.top offset end forms.Unread)
content_in Outside packet s offset end = Ok s
content_in Rdf packet s offset end = Ok s
content_in Node packet s offset end = Ok s
content_in Array packet s offset end = Ok s
content_in Inside packet s offset end = Ok s

-- the state with the open element as a property, if it has one value, or is not read
abbrev pub with_content : List ℕ → StateView → ℕ → ℕ → Result StateView Refusal
with_content packet s offset end = content_in s.top.role packet s offset end

unfoldable pub close_element : List ℕ → StateView → ℕ → ℕ → Result StateView Refusal
close_element packet s offset end =
    with_content packet s offset end >>= λ t. pop_element t offset

-- an end tag has the name of the open element
abbrev pub end_tag : List ℕ → StateView → ℕ → ℕ → ℕ → Result StateView Refusal
end_tag packet s offset n len =
    if bytes_eq (slice_of packet (record { start = offset + 2; end = offset + 2 + n }))
    (slice_of packet s.top.tag)
    then close_element packet s offset (offset + len) else
    Err (record { fault = faults.Xml xml_faults.MismatchedTag; offset = offset })

-- an element may end with its start tag
abbrev pub close_if_empty : List ℕ → StateView → Bool → ℕ → Result StateView Refusal
close_if_empty packet s is_empty content =
    if is_empty then close_element packet s content content else Ok s

-- the state behind a start tag
unfoldable pub open_element : List ℕ → StateView → StartTag → Result StateView Refusal
open_element packet s tag =
    refused_by_xml (attributes tag.attributes.start (slice_of packet tag.attributes)) >>= λ as'.
    (enter_element packet s as' tag >>= λ t. close_if_empty packet t tag.is_empty tag.content)
