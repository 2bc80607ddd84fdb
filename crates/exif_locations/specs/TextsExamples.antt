-- Worked examples: what holds texts.
use Rattle.std.specs.Prelude.{ℕ, ◌≡◌, refl, true, false, List, [], ◌∷◌, length, map, replicate, codes}
use Rattle.exif_locations.specs.Texts.{begins_name, iptc_has_texts, xmp_has_texts}
use Rattle.exif_locations.specs.Words.{begins_with}

keywords : xmp_has_texts (codes "<dc:subject/>") ≡ true
unfolding begins_name begins_with
keywords = refl

-- a name without a prefix, and a name of another property
no_texts : xmp_has_texts (codes "<title dc:source=''/>") ≡ false
unfolding begins_name begins_with
no_texts = refl

-- IPTC data of one dataset, whose value is so many bytes
abbrev one : ℕ → ℕ → List ℕ → List ℕ
one record_number number value = 28 ∷ record_number ∷ number ∷ 0 ∷ length value ∷ value

-- a caption, its writer, a subject, who is asked, a preview, and notes and a history of programs
captions : map (λ number. iptc_has_texts (one 2 number (65 ∷ [])))
    (120 ∷ 122 ∷ 12 ∷ 118 ∷ 202 ∷ 230 ∷ 231 ∷ [])
    ≡ replicate 7 true
captions = refl

-- who made the picture, and its date
others : map (λ number. iptc_has_texts (one 2 number (65 ∷ []))) (80 ∷ 55 ∷ []) ≡ replicate 2 false
others = refl

-- a destination, a number of a picture, object data, and data of a program
records : map iptc_has_texts (one 1 5 (codes "Basel") ∷ one 3 10 (codes "Basel")
    ∷ one 8 10 (codes "Basel") ∷ one 240 1 (codes "Basel") ∷ [])
    ≡ replicate 4 true
records = refl

-- a version, UTF-8, ISO 8859-1, and empty values, of which none holds a text
no_records : map iptc_has_texts (one 1 0 (0 ∷ 4 ∷ []) ∷ one 1 90 (27 ∷ 37 ∷ 71 ∷ [])
    ∷ one 1 90 (27 ∷ 46 ∷ 65 ∷ []) ∷ one 3 10 [] ∷ one 240 1 [] ∷ [])
    ≡ replicate 5 false
unfolding begins_with
no_records = refl

-- another character set, and a version that is too long
odd_records : map iptc_has_texts (one 1 90 (codes "Bas") ∷ one 1 0 (codes "Bas") ∷ [])
    ≡ replicate 2 true
unfolding begins_with
odd_records = refl

-- keywords, titles, categories, histories and names of each standard
names : map (λ name. begins_name name)
    (codes "Category" ∷ codes "SupplementalCategories" ∷ codes "keyword" ∷ codes "event"
    ∷ codes "Data" ∷ codes "History" ∷ codes "TextLayers" ∷ codes "comment" ∷ codes "scene"
    ∷ codes "UserFields" ∷ codes "CollectionName" ∷ codes "AOTitle" ∷ codes "CvTermName"
    ∷ codes "OrganisationInImageName" ∷ codes "BarCodeValue" ∷ codes "LicensorCity" ∷ [])
    ≡ replicate 16 true
unfolding begins_name begins_with
names = refl

-- names of settings, and a version
no_names : map (λ name. begins_name name)
    (codes "Texture" ∷ codes "ColorMode" ∷ codes "CreateDate" ∷ codes "Rating" ∷ [])
    ≡ replicate 4 false
unfolding begins_name begins_with
no_names = refl

-- descriptions of a region and of a preset, and elements of RDF
descriptions : map xmp_has_texts
    (codes "<mwg-rs:Description>Basel" ∷ codes " crs:Description='Basel'" ∷ [])
    ≡ replicate 2 true
unfolding begins_name begins_with
descriptions = refl

no_descriptions : xmp_has_texts (codes "<rdf:Description><rdf:Description></rdf:Description>")
    ≡ false
unfolding begins_name begins_with
no_descriptions = refl

-- a subject of PDF, and settings of Exif
subjects : map begins_name (codes "Subject='Basel'" ∷ codes "Subject>" ∷ codes "SubjectArea" ∷ [])
    ≡ true ∷ true ∷ false ∷ []
unfolding begins_name begins_with
subjects = refl

-- image metadata of PRISM, whatever their prefix is
image_metadata : xmp_has_texts (codes "<a xmlns:p='http://prismstandard.org/namespaces/pmi/2.2/'/>")
    ≡ true
unfolding begins_name begins_with
image_metadata = refl

-- keywords of a catalogue, the name of a region, a comment, and an identifier
catalogue : xmp_has_texts (codes "<lr:weightedFlatSubject/>") ≡ true
unfolding begins_name begins_with
catalogue = refl

region : xmp_has_texts (codes "<a mwg-rs:Name='Basel'/>") ≡ true
unfolding begins_name begins_with
region = refl

comment : xmp_has_texts (codes "<!--Basel-->") ≡ true
unfolding begins_name begins_with
comment = refl

identifier : xmp_has_texts (codes "<rdf:Description rdf:about='Basel'/>") ≡ true
unfolding begins_name begins_with
identifier = refl

-- an empty identifier, and the instruction of a packet
no_identifier : xmp_has_texts (codes "<?xpacket begin=''?><rdf:Description rdf:about=''/>") ≡ false
unfolding begins_name begins_with
no_identifier = refl
