-- Worked examples.
use Rattle.std.specs.Prelude.{ℕ, ◌≡◌, refl, List, ◌∷◌, [], ◌++◌, codes, Ok, Err}
use Rattle.std.specs.Fmt.{digits}
use Rattle.exif_xml.specs.declared.fault.Fault.TheVariants.{Truncated}
use Rattle.exif_xml.specs.Attributes.{attribute_at, attributes, next_at}
use Rattle.exif_xml.specs.Names.{resolve}
use Rattle.exif_xml.specs.Prefixes.{core_prefix, edit_prefix, iptc_prefix, people_prefix, photo_prefix, struct_prefix}
use Rattle.exif_xml.specs.Refusals.{walk}
use Rattle.exif_xml.specs.Texts.{chunk_at, reference_at, text_of}
use Rattle.exif_xml.specs.Tokens.{declaration_at, end_at, markup_at, start_at, token_at}
use Rattle.exif_xmp.specs.declared.fault.Fault.TheVariants.{Xml}
use Rattle.exif_xmp.specs.Elements.{close_element, element_of, enter_element, open_element, pop_element}
use Rattle.exif_xmp.specs.Fields.{with_attribute}
use Rattle.exif_xmp.specs.Paths.{path_of, root_of}
use Rattle.exif_xmp.specs.Properties.{property_of}
use Rattle.exif_xmp.specs.Reading.{read, read_all}
use Rattle.exif_xmp.specs.Roles.{facts_of, meaning_of}
use Rattle.exif_xmp.specs.States.{with_property}
use Rattle.exif_xmp_set.specs.declared.context.Context.TheVariants.{Content, Quotes}
use Rattle.exif_xmp_set.specs.declared.fault.Reason.TheVariants.{InvalidText, NoProperty, Packet, Unread}
use Rattle.exif_xmp_set.specs.Escaping.{escaped}
use Rattle.exif_xmp_set.specs.Padding.{fitted}
use Rattle.exif_xmp_set.specs.Setting.{set_text, with_text}

-- the label of a packet that exiftool 12.57 wrote, as an attribute and as an element
label : escaped (Quotes 39) (codes "It's <b> & c") ≡ codes "It&#39;s &lt;b&gt; &amp; c"
unfolding escaped
label = refl

title : escaped Content (codes "Sea & sand <3") ≡ codes "Sea &amp; sand &lt;3"
unfolding escaped
title = refl

-- tab, LF and CR in an attribute, and the other quote
white_space : escaped (Quotes 34) (9 ∷ 10 ∷ 13 ∷ 39 ∷ []) ≡ codes "&#9;&#10;&#13;'"
unfolding escaped
white_space = refl

-- the padding of a value that grows, that shrinks, and that has no room; and a packet without a
-- trailer
grown : fitted 1 3 (codes "</a></b>    <?xpacket end='w'?>") ≡
    codes "</a></b>  <?xpacket end='w'?>"
grown = refl

shrunken : fitted 3 1 (codes "</a></b>  <?xpacket end='w'?>") ≡
    codes "</a></b>    <?xpacket end='w'?>"
shrunken = refl

no_room : fitted 1 4 (codes "</a></b>  <?xpacket end='w'?>") ≡
    codes "</a></b>  <?xpacket end='w'?>"
no_room = refl

no_trailer : fitted 3 1 (codes "</a>  </b>") ≡ codes "</a>  </b>"
no_trailer = refl

-- a packet with one description
abbrev packet : List ℕ → List ℕ → List ℕ
packet inside inner =
    codes "<r:RDF xmlns:r='http://www.w3.org/1999/02/22-rdf-syntax-ns#'>"
    ++ (codes "<r:Description xmlns:d='http://purl.org/dc/elements/1.1/'" ++ (inside ++ (codes ">"
    ++ (inner ++ codes "</r:Description></r:RDF>"))))

abbrev dublin_core : List ℕ
dublin_core = codes "http://purl.org/dc/elements/1.1/"

-- an element, an empty-element tag and an attribute
element : set_text (packet [] (codes "<d:format>a</d:format>")) dublin_core (codes "dc:format")
    (codes "b<") ≡ Ok (packet [] (codes "<d:format>b&lt;</d:format>"))
unfolding set_text with_text escaped digits read read_all walk token_at markup_at start_at end_at declaration_at attributes next_at attribute_at open_element enter_element element_of facts_of resolve close_element pop_element with_property with_attribute meaning_of property_of path_of root_of text_of chunk_at reference_at core_prefix photo_prefix iptc_prefix struct_prefix people_prefix edit_prefix
element = refl

empty_tag : set_text (packet [] (codes "<d:format/>")) dublin_core (codes "dc:format") (codes "b")
    ≡ Ok (packet [] (codes "<d:format>b</d:format>"))
unfolding set_text with_text escaped digits read read_all walk token_at markup_at start_at end_at declaration_at attributes next_at attribute_at open_element enter_element element_of facts_of resolve close_element pop_element with_property with_attribute meaning_of property_of path_of root_of text_of chunk_at reference_at core_prefix photo_prefix iptc_prefix struct_prefix people_prefix edit_prefix
empty_tag = refl

attribute : set_text (packet (codes " d:format=''") []) dublin_core (codes "dc:format")
    (codes "it's") ≡ Ok (packet (codes " d:format='it&#39;s'") [])
unfolding set_text with_text escaped digits read read_all walk token_at markup_at start_at end_at declaration_at attributes next_at attribute_at open_element enter_element element_of facts_of resolve close_element pop_element with_property with_attribute meaning_of property_of path_of root_of text_of chunk_at reference_at core_prefix photo_prefix iptc_prefix struct_prefix people_prefix edit_prefix
attribute = refl

-- refusals
cut : set_text (codes "<x>") dublin_core (codes "dc:format") [] ≡
    Err (Packet (record { fault = Xml Truncated; offset = 3 }))
unfolding set_text read read_all walk token_at markup_at start_at attributes open_element enter_element element_of facts_of resolve
cut = refl

no_property : set_text (codes "<x/>") dublin_core (codes "dc:format") [] ≡ Err NoProperty
unfolding set_text read read_all walk token_at markup_at start_at attributes open_element enter_element element_of facts_of resolve close_element pop_element
no_property = refl

unread : set_text (packet [] (codes "<d:format>a<d:b/></d:format>")) dublin_core
    (codes "dc:format") [] ≡ Err Unread
unfolding set_text with_text escaped digits read read_all walk token_at markup_at start_at end_at declaration_at attributes next_at attribute_at open_element enter_element element_of facts_of resolve close_element pop_element with_property with_attribute meaning_of property_of path_of root_of text_of chunk_at reference_at core_prefix photo_prefix iptc_prefix struct_prefix people_prefix edit_prefix
unread = refl

invalid : set_text (packet [] (codes "<d:format>a</d:format>")) dublin_core (codes "dc:format")
    (98 ∷ 0 ∷ []) ≡ Err (InvalidText 1)
unfolding set_text with_text escaped digits read read_all walk token_at markup_at start_at end_at declaration_at attributes next_at attribute_at open_element enter_element element_of facts_of resolve close_element pop_element with_property with_attribute meaning_of property_of path_of root_of text_of chunk_at reference_at core_prefix photo_prefix iptc_prefix struct_prefix people_prefix edit_prefix
invalid = refl
