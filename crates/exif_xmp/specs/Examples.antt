-- Worked examples.
use Rattle.std.specs.Prelude.{ℕ, ◌≡◌, refl, List, ◌∷◌, [], ◌++◌, codes, Option, Some, None, Ok, Err}
use Rattle.std.specs.Fmt.{digits}
use Rattle.exif_xml.specs.declared.fault.Fault.TheVariants.{MismatchedTag, Truncated, UndeclaredPrefix}
use Rattle.exif_xml.specs.Attributes.{attribute_at, attributes, next_at}
use Rattle.exif_xml.specs.Names.{resolve}
use Rattle.exif_xml.specs.Prefixes.{core_prefix, edit_prefix, iptc_prefix, people_prefix, photo_prefix, struct_prefix}
use Rattle.exif_xml.specs.Refusals.{walk}
use Rattle.exif_xml.specs.Texts.{chunk_at, reference_at, text_of}
use Rattle.exif_xml.specs.Tokens.{declaration_at, end_at, markup_at, start_at, token_at}
use Rattle.exif_xmp.specs.declared.fault.Fault.TheVariants.{Xml}
use Rattle.exif_xmp.specs.declared.property.Form.{Form}
use Rattle.exif_xmp.specs.declared.property.Form.TheVariants.{Text, Unread}
use Rattle.exif_xmp.specs.Elements.{close_element, element_of, enter_element, open_element, pop_element}
use Rattle.exif_xmp.specs.Fields.{with_attribute}
use Rattle.exif_xmp.specs.Paths.{path_of, root_of}
use Rattle.exif_xmp.specs.Properties.{PropertyView, property_of}
use Rattle.exif_xmp.specs.Reading.{read, read_all}
use Rattle.exif_xmp.specs.Roles.{facts_of, meaning_of}
use Rattle.exif_xmp.specs.States.{with_property}

-- a packet with one description, under other prefixes than the usual ones
abbrev packet : List ℕ → List ℕ
packet inner =
    codes "<r:RDF xmlns:r='http://www.w3.org/1999/02/22-rdf-syntax-ns#'>"
    ++ (codes "<r:Description xmlns:d='http://purl.org/dc/elements/1.1/'>"
    ++ (inner ++ codes "</r:Description></r:RDF>"))

-- a property of Dublin Core
abbrev dublin_core : List ℕ → List ℕ → Option (List ℕ) → ℕ → ℕ → ℕ → ℕ → Form → PropertyView
dublin_core path text language a b c d form = record {
  namespace = codes "http://purl.org/dc/elements/1.1/";
  path = path;
  text = text;
  language = language;
  value = record { start = a; end = b };
  whole = record { start = c; end = d };
  form = form;
}

-- a keyword
keyword : read (packet (codes "<d:subject><r:Bag><r:li>a&amp;b</r:li></r:Bag></d:subject>")) ≡
    Ok (dublin_core (codes "dc:subject[1]") (codes "a&b") None 143 150 137 157 Text ∷ [])
unfolding digits read read_all walk token_at markup_at start_at end_at declaration_at attributes next_at attribute_at open_element enter_element element_of facts_of resolve close_element pop_element with_property with_attribute meaning_of property_of path_of root_of text_of chunk_at reference_at core_prefix photo_prefix iptc_prefix struct_prefix people_prefix edit_prefix
keyword = refl

-- the language of the nearest element that has one, or none
language : read (packet (codes "<d:title xml:lang='en'><r:Alt><r:li>a</r:li>"
    ++ codes "<r:li xml:lang=''>b</r:li></r:Alt></d:title>")) ≡
    Ok (dublin_core (codes "dc:title[1]") (codes "a") (Some (codes "en")) 155 156 149 163 Text ∷
    dublin_core (codes "dc:title[2]") (codes "b") None 181 182 163 189 Text ∷ [])
unfolding digits read read_all walk token_at markup_at start_at end_at declaration_at attributes next_at attribute_at open_element enter_element element_of facts_of resolve close_element pop_element with_property with_attribute meaning_of property_of path_of root_of text_of chunk_at reference_at core_prefix photo_prefix iptc_prefix struct_prefix people_prefix edit_prefix
language = refl

-- a typed node is not read, and the item behind it is
typed : read (packet (codes "<d:subject><r:Bag><r:li><d:Foo>x</d:Foo></r:li>"
    ++ codes "<r:li>b</r:li></r:Bag></d:subject>")) ≡
    Ok (dublin_core (codes "dc:subject[1]") [] None 150 151 143 159 Unread ∷
    dublin_core (codes "dc:subject[2]") (codes "b") None 172 173 166 180 Text ∷ [])
unfolding digits read read_all walk token_at markup_at start_at end_at declaration_at attributes next_at attribute_at open_element enter_element element_of facts_of resolve close_element pop_element with_property with_attribute meaning_of property_of path_of root_of text_of chunk_at reference_at core_prefix photo_prefix iptc_prefix struct_prefix people_prefix edit_prefix
typed = refl

-- nor are a literal of XML, and text beside an element
literal : read (packet (codes "<d:rights r:parseType='Literal'>a<b/></d:rights>"
    ++ codes "<d:type>c<d:e/></d:type>")) ≡
    Ok (dublin_core (codes "dc:rights") [] None 151 156 119 167 Unread ∷
    dublin_core (codes "dc:type") [] None 175 182 167 191 Unread ∷ [])
unfolding digits read read_all walk token_at markup_at start_at end_at declaration_at attributes next_at attribute_at open_element enter_element element_of facts_of resolve close_element pop_element with_property with_attribute meaning_of property_of path_of root_of text_of chunk_at reference_at core_prefix photo_prefix iptc_prefix struct_prefix people_prefix edit_prefix
literal = refl

-- a prefix that is not declared
no_prefix : read (codes "<x/><a:b/>") ≡ Err (record { fault = Xml UndeclaredPrefix; offset = 4 })
unfolding read read_all walk token_at markup_at start_at attributes open_element enter_element element_of facts_of resolve close_element pop_element
no_prefix = refl

cut : read (codes "<x>") ≡ Err (record { fault = Xml Truncated; offset = 3 })
unfolding read read_all walk token_at markup_at start_at attributes open_element enter_element element_of facts_of resolve
cut = refl

unbalanced : read (codes "<x></y>") ≡ Err (record { fault = Xml MismatchedTag; offset = 3 })
unfolding read read_all walk token_at markup_at start_at end_at attributes open_element enter_element element_of facts_of resolve
unbalanced = refl
