-- Texts, keywords, identifiers and encoded pictures, in which a location may be named.
use Rattle.std.specs.Prelude.{ℕ, ◌+◌, ◌*◌, ◌==◌, ◌&&◌, ◌||◌, not, Bool, false, if◌then◌else◌, List, [], ◌∷◌, take, codes}
use Rattle.std.specs.Str.{bytes_eq}
use Rattle.exif_locations.specs.IptcNumbers.{character_sets, text_numbers, text_records}
use Rattle.exif_locations.specs.Stray.{has_stray_text}
use Rattle.exif_locations.specs.TextNames.{no_identifiers, text_names}
use Rattle.exif_locations.specs.Words.{begins_with, begins_with_one, is_among}

-- whether bytes begin with an identifier of the picture, which may be any text (RDF/XML 1.1)
abbrev pub begins_identifier : List ℕ → Bool
begins_identifier bytes =
    bytes_eq (take 5 bytes) (codes "about") && not (begins_with_one no_identifiers bytes)

-- whether bytes behind `<` begin a comment, character data, or an instruction that is not that of a
-- packet (XML 1.0, 2.5 to 2.7)
abbrev pub begins_remark : List ℕ → Bool
begins_remark [] = false
begins_remark (b ∷ bytes) =
    (b == 33) || ((b == 63) && not (bytes_eq (take 8 bytes) (codes "xpacket ")))

-- whether three bytes are the prefix of RDF, as nearly all packets have it
abbrev pub is_rdf : ℕ → ℕ → ℕ → Bool
is_rdf a b c = (a == 114) && (b == 100) && (c == 102)

-- whether bytes begin with three of a prefix and the name of a description (MWG, Regions; XMP
-- Basic; Camera Raw), which is not the element of that name that RDF has
abbrev pub begins_described : List ℕ → Bool
begins_described (a ∷ b ∷ c ∷ d ∷ bytes) =
    (d == 58) && not (is_rdf a b c) && begins_with (codes "Description") bytes
begins_described rest = false

-- whether bytes begin with the name of a property that may hold a location in a text
unfoldable pub begins_name : List ℕ → Bool
begins_name bytes = begins_with_one text_names bytes || begins_identifier bytes

-- an XMP packet has such a name behind the colon of a prefix, a description, or a remark
abbrev pub names_texts : List ℕ → Bool
names_texts [] = false
names_texts (b ∷ bytes) =
    ((b == 58) && begins_name bytes) || ((b == 60) && begins_remark bytes)
    || begins_described (b ∷ bytes) || names_texts bytes

-- it has one of these, or text that is no value of a property
abbrev pub xmp_has_texts : List ℕ → Bool
xmp_has_texts bytes = has_stray_text bytes || names_texts bytes

-- whether a dataset with a number, behind which its length and value follow, holds more than a
-- version (two bytes of number 0) or one of these character sets
abbrev pub holds_text : List ℕ → Bool
holds_text (number ∷ high ∷ low ∷ value) =
    let len = 256 * high + low in
    not ((len == 0) || ((len == 2) && (number == 0))
    || ((len == 3) && (number == 90) && begins_with_one character_sets value))
holds_text rest = false

-- whether bytes go on as the front of a dataset does that holds a text or a picture
abbrev pub begins_text : List ℕ → Bool
begins_text [] = false
begins_text (r ∷ []) = false
begins_text (r ∷ number ∷ rest) =
    if r == 2 then is_among text_numbers number else
    (is_among text_records r && holds_text (number ∷ rest))

-- IPTC data have such a dataset, or bytes like its front
abbrev pub iptc_has_texts : List ℕ → Bool
iptc_has_texts [] = false
iptc_has_texts (b ∷ bytes) = ((b == 28) && begins_text bytes) || iptc_has_texts bytes
