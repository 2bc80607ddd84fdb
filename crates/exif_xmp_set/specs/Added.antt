-- A packet with one property more.
use Rattle.std.specs.Prelude.{ℕ, ◌+◌, ◌-◌, ◌==◌, ◌&&◌, ◌||◌, not, Bool, false, if◌then◌else◌, List, [], ◌∷◌, ◌++◌, length, take, drop, slice_index, codes, Option, Some, None, Result, Ok, Err}
use Rattle.std.specs.List.{list_any}
use Rattle.std.specs.Str.{bytes_eq}
use Rattle.exif_xml.specs.Characters.{invalid_character}
use Rattle.exif_xml.specs.Refusals.{◌>>=◌}
use Rattle.exif_xml.specs.Scans.{begins, is_name_byte, run, slice_of}
use Rattle.exif_xmp.specs.Paths.{with_index}
use Rattle.exif_xmp.specs.Properties.{PropertyView}
use Rattle.exif_xmp.specs.Reading.{read}
use Rattle.exif_xmp.specs.declared.property.Form.TheVariants as forms
use Rattle.exif_xmp_set.specs.declared.context.Context.TheVariants.{Content as InContent, Quotes}
use Rattle.exif_xmp_set.specs.declared.fault.Reason.{Reason}
use Rattle.exif_xmp_set.specs.declared.fault.Reason.TheVariants.{NoPlace, Present}
use Rattle.exif_xmp_set.specs.declared.inserted.Given.{Given}
use Rattle.exif_xmp_set.specs.declared.items.Array.{Array}
use Rattle.exif_xmp_set.specs.declared.items.Array.TheVariants.{Bag, Seq}
use Rattle.exif_xmp_set.specs.Items.{begins_with, last_item}
use Rattle.exif_xmp_set.specs.declared.items.LastItem.{LastItem}
use Rattle.exif_xmp_set.specs.Contents.{Content, is_inserted}
use Rattle.exif_xmp_set.specs.Contexts.{tag_name}
use Rattle.exif_xmp_set.specs.Escaping.{escaped}
use Rattle.exif_xmp_set.specs.Refusals.{of_reader}
use Rattle.exif_xmp_set.specs.Setting.{if_read, if_valid, spliced}

-- a property that is given says this
abbrev pub given_view : Given → Content
given_view given = record {
  namespace = given.namespace.now;
  path = given.path.now;
  text = given.text.now;
  language = None;
  form = forms.Text;
}

abbrev pub text_content : List ℕ → List ℕ → List ℕ → Content
text_content namespace path text =
    record { namespace = namespace; path = path; text = text; language = None; form = forms.Text }

-- ---- whether it is there

-- what follows a path is nothing, or leads into an array or a structure
abbrev pub leads_in : List ℕ → Bool
leads_in rest =
    (length rest == 0) || (slice_index rest 0 == 91) || (slice_index rest 0 == 47)

-- a path is another one, or goes on behind it
abbrev pub goes_on : List ℕ → List ℕ → Bool
goes_on path q = if begins_with path q then leads_in (drop (length path) q) else false

-- a property is the one of a namespace and path, or in it
abbrev pub is_within : List ℕ → List ℕ → PropertyView → Bool
is_within namespace path p = goes_on path p.path && bytes_eq p.namespace namespace

abbrev pub is_present : List ℕ → List ℕ → List PropertyView → Bool
is_present namespace path ps = list_any (is_within namespace path) ps

abbrev pub if_absent : Bool → Result Unit Reason
if_absent present = if present then Err Present else Ok tt

-- ---- where it goes

-- bytes begin with the end tag of the element that has all descriptions: its name is `RDF` behind a
-- prefix (XMP Specification, Part 1, 7.4)
abbrev pub is_rdf : List ℕ → Bool
is_rdf name = bytes_eq (drop (length name - 4) name) (codes ":RDF")

unfoldable pub is_rdf_end : List ℕ → Bool
is_rdf_end bytes =
    begins bytes (codes "</") && is_rdf (take (run is_name_byte (drop 2 bytes)) (drop 2 bytes))

-- the offset of the last one
abbrev pub rdf_end : Option ℕ → ℕ → List ℕ → Option ℕ
rdf_end found at [] = found
rdf_end found at (b ∷ bs) =
    rdf_end (if is_rdf_end (b ∷ bs) then Some at else found) (at + 1) bs

abbrev pub if_place : Option ℕ → Result ℕ Reason
if_place None = Err NoPlace
if_place (Some at) = Ok at

-- ---- how it is written

-- the prefix of a path
abbrev pub is_no_colon : ℕ → Bool
is_no_colon b = not (b == 58)

abbrev pub prefix_of : List ℕ → List ℕ
prefix_of path = take (run is_no_colon path) path

-- how a description of its own begins: with the namespace of RDF, and the file as its subject (RDF
-- 1.1 XML Syntax, 5.1; XMP Specification, Part 1, 7.4)
unfoldable pub opening : List ℕ
opening =
    codes "<rdf:Description xmlns:rdf='http://www.w3.org/1999/02/22-rdf-syntax-ns#' rdf:about=''"

-- its start tag, without its end
abbrev pub opened : List ℕ → List ℕ → List ℕ
opened namespace path =
    opening ++ (codes " xmlns:" ++ (prefix_of path ++ (codes "='" ++ (escaped (Quotes 39) namespace ++ codes "'"))))

-- a description with a text as an attribute
abbrev pub text_description : List ℕ → List ℕ → List ℕ → List ℕ
text_description namespace path text =
    opened namespace path
    ++ (codes " " ++ (path ++ (codes "='" ++ (escaped (Quotes 39) text ++ codes "'/>\n"))))

-- the name of an array
abbrev pub array_name : Array → List ℕ
array_name Bag = codes "rdf:Bag"
array_name Seq = codes "rdf:Seq"

abbrev pub start_tag : List ℕ → List ℕ
start_tag name = codes "<" ++ (name ++ codes ">")

abbrev pub end_tag : List ℕ → List ℕ
end_tag name = codes "</" ++ (name ++ codes ">")

-- an item, as an element of a name
abbrev pub item : List ℕ → List ℕ → List ℕ
item name text = start_tag name ++ (escaped InContent text ++ end_tag name)

-- an array of one item, and the element of a property with it
abbrev pub array_of : Array → List ℕ → List ℕ
array_of array text =
    start_tag (array_name array) ++ (item (codes "rdf:li") text ++ end_tag (array_name array))

abbrev pub element_of : Array → List ℕ → List ℕ → List ℕ
element_of array path text = start_tag path ++ (array_of array text ++ end_tag path)

-- a description with that
abbrev pub array_description : Array → List ℕ → List ℕ → List ℕ → List ℕ
array_description array namespace path text =
    opened namespace path
    ++ (codes ">" ++ (element_of array path text ++ codes "</rdf:Description>\n"))

-- the packet with bytes at an offset, and its padding fitted to them
abbrev pub with_block : List ℕ → ℕ → List ℕ → List ℕ
with_block packet at block = spliced packet (record { start = at; end = at }) block

-- a new packet, if it is read as the old one with a property more
abbrev pub checked_more : List PropertyView → ℕ → Content → List ℕ → Result (List ℕ) Reason
checked_more old at given new = if_read (is_inserted at given old) new (read new)

-- ---- a text

abbrev pub block_added : List PropertyView → List ℕ → Content → List ℕ → Result (List ℕ) Reason
block_added old packet given block =
    if_absent (is_present given.namespace given.path old) >>= λ u.
    (if_place (rdf_end None 0 packet) >>= λ at.
    (if_valid (invalid_character given.text) (with_block packet at block) >>= λ new.
    checked_more old (length old) given new))

-- the packet with a text that it did not have, or why not
unfoldable pub add_text : List ℕ → List ℕ → List ℕ → List ℕ → Result (List ℕ) Reason
add_text packet namespace path text =
    of_reader (read packet) >>= λ old.
    block_added old packet (text_content namespace path text)
    (text_description namespace path text)

-- ---- an item

-- the packet with an item behind the last one of an array: an element of the same name
abbrev pub item_added : List PropertyView → List ℕ → LastItem → List ℕ → List ℕ → List ℕ
    → Result (List ℕ) Reason
item_added old packet last namespace path text =
    if_valid (invalid_character text)
    (with_block packet last.whole.end (item (tag_name (slice_of packet last.whole)) text))
    >>= λ new. checked_more old (last.position + 1)
    (text_content namespace (with_index path (last.count + 1)) text) new

-- the packet with an array of one item
abbrev pub array_added : Array → List PropertyView → List ℕ → List ℕ → List ℕ → List ℕ
    → Result (List ℕ) Reason
array_added array old packet namespace path text =
    if_absent (is_present namespace path old) >>= λ u.
    block_added old packet (text_content namespace (with_index path 1) text)
    (array_description array namespace path text)

-- the packet with an item at the end of an array, or with the array
abbrev pub item_by : Array → List PropertyView → List ℕ → Option LastItem → List ℕ → List ℕ
    → List ℕ → Result (List ℕ) Reason
item_by array old packet (Some last) namespace path text =
    item_added old packet last namespace path text
item_by array old packet None namespace path text =
    array_added array old packet namespace path text

-- the packet with an item more at the end of an array, which is made where there is none, or why not
unfoldable pub add_item : List ℕ → List ℕ → List ℕ → Array → List ℕ → Result (List ℕ) Reason
add_item packet namespace path array text =
    of_reader (read packet) >>= λ old.
    item_by array old packet (last_item namespace path old) namespace path text
