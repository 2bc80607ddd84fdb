-- Which elements and attributes the RDF of XMP has, and what they mean (XMP Specification, Part 1,
-- 7 and Annex C; RDF/XML Syntax Specification).
use Rattle.std.specs.Prelude.{ℕ, ◌+◌, ◌==◌, ◌||◌, nat_le, Bool, true, false, if◌then◌else◌, List, [], ◌∷◌, codes, Option, Some, None, Result, Ok, Err}
use Rattle.std.specs.Str.{bytes_eq}
use Rattle.exif_xml.specs.declared.attribute.Attribute.{Attribute}
use Rattle.exif_xml.specs.declared.name.Binding.{Binding}
use Rattle.exif_xml.specs.declared.name.Name.{Name}
use Rattle.exif_xml.specs.declared.span.Span.{Span}
use Rattle.exif_xml.specs.Names.{qname_of, resolve}
use Rattle.exif_xml.specs.Prefixes.{is_rdf}
use Rattle.exif_xml.specs.Refusals.{◌>>=◌}
use Rattle.exif_xml.specs.Scans.{begins, slice_of}
use Rattle.exif_xmp.specs.declared.fault.Fault.{Fault}
use Rattle.exif_xmp.specs.declared.fault.Fault.TheVariants as faults
use Rattle.exif_xmp.specs.declared.frame.Frame.{Frame}
use Rattle.exif_xmp.specs.declared.frame.Role.{Role}
use Rattle.exif_xmp.specs.declared.frame.Role.TheVariants as roles
use Rattle.exif_xmp.specs.declared.path.Step.TheVariants as steps
use Rattle.exif_xmp.specs.declared.role.Child.{Child}
use Rattle.exif_xmp.specs.declared.role.Facts.{Facts}
use Rattle.exif_xmp.specs.declared.role.Meaning.{Meaning}
use Rattle.exif_xmp.specs.declared.role.Meaning.TheVariants as meanings
use Rattle.exif_xmp.specs.declared.role.Term.{Term}
use Rattle.exif_xmp.specs.declared.role.Term.TheVariants.{Root, Description, Array, Item, Value, Other}
use Rattle.exif_xmp.specs.Refusals.{of_xml}

-- ---- elements

-- the element of RDF with this local name
abbrev pub rdf_term : List ℕ → Term
rdf_term local =
    if bytes_eq local (codes "RDF") then Root else
    (if bytes_eq local (codes "Description") then Description else
    (if bytes_eq local (codes "Bag") || bytes_eq local (codes "Seq") || bytes_eq local (codes "Alt")
    then Array else
    (if bytes_eq local (codes "li") then Item else
    (if bytes_eq local (codes "value") then Value else Other))))

abbrev pub term_of : List ℕ → Name → Term
term_of packet name =
    if is_rdf (slice_of packet name.uri) then rdf_term (slice_of packet name.local) else Other

-- outside `rdf:RDF` only that counts
abbrev pub outside_child : Term → Child
outside_child Root = record { role = roles.Rdf; step = steps.Nothing }
outside_child _ = record { role = roles.Outside; step = steps.Nothing }

-- an element of a form that XMP does not have
abbrev pub unread_child : Child
unread_child = record { role = roles.Unread; step = steps.Nothing }

-- an element in one that is not read
abbrev pub inside_child : Child
inside_child = record { role = roles.Inside; step = steps.Nothing }

-- `rdf:RDF` contains `rdf:Description`
abbrev pub rdf_child : Term → Child
rdf_child Description = record { role = roles.Node; step = steps.Nothing }
rdf_child _ = unread_child

-- an element with properties contains an element for each, which has a namespace; `rdf:value` is
-- the value of the whole
abbrev pub node_child : Term → Name → Child
node_child Value name = record { role = roles.Property; step = steps.Nothing }
node_child Other name =
    if name.uri.start == name.uri.end then unread_child else
    record { role = roles.Property; step = steps.Named name }
node_child Root name = unread_child
node_child Description name = unread_child
node_child Array name = unread_child
node_child Item name = unread_child

-- a property contains text, or one `rdf:Description`, or one array; with text beside elements none
-- of its content is read
abbrev pub value_child : Term → Child
value_child Description = record { role = roles.Node; step = steps.Nothing }
value_child Array = record { role = roles.Array; step = steps.Nothing }
value_child _ = unread_child

abbrev pub property_child : Term → Bool → Bool → Child
property_child term has_value has_text =
    if has_text then inside_child else
    (if has_value then unread_child else value_child term)

-- an array contains `rdf:li`
abbrev pub item_role : Term → Role
item_role Item = roles.Property
item_role _ = roles.Unread

-- each element in an array has the next index
abbrev pub array_child : Term → ℕ → Result Child Fault
array_child term items =
    if nat_le 65535 items then Err faults.TooMany else
    Ok (record { role = item_role term; step = steps.Item (items + 1) })

abbrev pub role_child : Role → Frame → Term → Name → Result Child Fault
role_child roles.Outside top term name = Ok (outside_child term)
role_child roles.Rdf top term name = Ok (rdf_child term)
role_child roles.Node top term name = Ok (node_child term name)
role_child roles.Property top term name = Ok (property_child term top.has_value top.has_text)
role_child roles.Array top term name = array_child term top.items
role_child roles.Unread top term name = Ok inside_child
role_child roles.Inside top term name = Ok inside_child

-- the element with this name in the open one
abbrev pub child_of : List ℕ → Frame → Name → Result Child Fault
child_of packet top name = role_child top.role top (term_of packet name) name

-- ---- attributes

abbrev pub rdf_attribute : List ℕ → Name → Meaning
rdf_attribute local name =
    if bytes_eq local (codes "about") || bytes_eq local (codes "ID")
    || bytes_eq local (codes "nodeID") || bytes_eq local (codes "datatype")
    then meanings.Ignored else
    (if bytes_eq local (codes "resource") then meanings.Resource else
    (if bytes_eq local (codes "parseType") then meanings.ParseType else
    (if bytes_eq local (codes "value") then meanings.Value else meanings.Field name)))

abbrev pub meaning_named : List ℕ → Name → Meaning
meaning_named packet name =
    if is_rdf (slice_of packet name.uri) then rdf_attribute (slice_of packet name.local) name else
    meanings.Field name

-- `xmlns`, `xmlns:..` and `xml:..`
abbrev pub xml_attribute : List ℕ → Option Meaning
xml_attribute name =
    if bytes_eq name (codes "xmlns") || bytes_eq name (codes "xml:lang")
    then (if bytes_eq name (codes "xml:lang") then Some meanings.Language else
    Some meanings.Ignored)
    else (if begins name (codes "xmlns:") then Some meanings.Ignored else
    (if begins name (codes "xml:") then Some meanings.Ignored else None))

-- the meaning of a name
abbrev pub meaning_of_name : List ℕ → Result Name Fault → Result Meaning Fault
meaning_of_name packet (Ok name) = Ok (meaning_named packet name)
meaning_of_name packet (Err f) = Err f

-- a name without a prefix has no namespace, and means nothing
abbrev pub meaning_with : List ℕ → List Binding → Attribute → Option Meaning → Result Meaning Fault
meaning_with packet bs a (Some m) = Ok m
meaning_with packet bs a None =
    let qname = qname_of packet a.name in
    if qname.prefix.start == qname.prefix.end then Ok meanings.Ignored else
    meaning_of_name packet (of_xml (resolve packet bs a.name))

unfoldable pub meaning_of : List ℕ → List Binding → Attribute → Result Meaning Fault
meaning_of packet bs a = meaning_with packet bs a (xml_attribute (slice_of packet a.name))

-- the facts with the meaning of one more attribute
abbrev pub with_meaning : Facts → Meaning → Span → Facts
with_meaning facts meanings.Ignored value = facts
with_meaning facts meanings.Language value = record facts { language = Some value }
with_meaning facts meanings.Resource value = record facts { resource = Some value }
with_meaning facts meanings.ParseType value = record facts { parse_type = Some value }
with_meaning facts meanings.Value value = record facts { has_fields = true }
with_meaning facts (meanings.Field name) value = record facts { has_fields = true }

abbrev pub facts_from : List ℕ → List Binding → Facts → List Attribute → Result Facts Fault
facts_from packet bs facts [] = Ok facts
facts_from packet bs facts (a ∷ as') =
    meaning_of packet bs a >>= λ m. facts_from packet bs (with_meaning facts m a.value) as'

abbrev pub no_facts : Facts
no_facts = record { language = None; resource = None; parse_type = None; has_fields = false }

-- what the attributes of an element mean together
unfoldable pub facts_of : List ℕ → List Binding → List Attribute → Result Facts Fault
facts_of packet bs as' = facts_from packet bs no_facts as'

-- a property with `rdf:parseType="Resource"` has properties; of other types it is not read
abbrev pub parsed_role : List ℕ → Option Span → Role
parsed_role packet None = roles.Property
parsed_role packet (Some value) =
    if bytes_eq (slice_of packet value) (codes "Resource") then roles.Node else roles.Unread

-- an array has no properties of its own
abbrev pub frame_role : List ℕ → Role → Facts → Role
frame_role packet roles.Property facts = parsed_role packet facts.parse_type
frame_role packet roles.Array facts = if facts.has_fields then roles.Unread else roles.Array
frame_role packet roles.Outside facts = roles.Outside
frame_role packet roles.Rdf facts = roles.Rdf
frame_role packet roles.Node facts = roles.Node
frame_role packet roles.Unread facts = roles.Unread
frame_role packet roles.Inside facts = roles.Inside
