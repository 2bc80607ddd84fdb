-- How the names of XMP properties begin that hold what people write of a picture, keywords, names,
-- a picture or an identifier, without their prefixes, each with where it is defined: Dublin Core
-- (ISO 15836), XMP Basic, XMP dynamic media and Photoshop (XMP Specification, Part 2), IPTC Core
-- and Extension (IPTC Photo Metadata Standard), PRISM (PRISM 3.0), MWG (Metadata Working Group
-- 2.0), PLUS (PLUS LDF 2.0), RDF (RDF/XML 1.1), or the program that writes it.
use Rattle.std.specs.Prelude.{ℕ, List, [], ◌∷◌, codes}

-- the names, in the order of their bytes
abbrev pub text_names : List (List ℕ)
text_names =
    codes "//prismstandard.org/namespaces/pmi/" ∷  -- PRISM image metadata, by its namespace
    codes "AOContent" ∷  -- IPTC Extension, ArtworkOrObject: AOContentDescription
    codes "AOContribution" ∷  -- IPTC Extension, ArtworkOrObject: AOContributionDescription
    codes "AOPhysical" ∷  -- IPTC Extension, ArtworkOrObject: AOPhysicalDescription
    codes "AOTitle" ∷  -- IPTC Extension, ArtworkOrObject
    codes "Address" ∷  -- as Iptc4xmpCore:CiAdrExtadr, of programs
    codes "AltText" ∷  -- IPTC Core: AltTextAccessibility
    codes "BarCodeValue" ∷  -- MWG, Regions
    codes "CaptionWriter" ∷  -- Photoshop
    codes "CatalogSets" ∷  -- MediaPro
    codes "Category" ∷  -- Photoshop
    codes "CiAdr" ∷  -- IPTC Core, ContactInfo: the address of who made the picture
    codes "CollectionName" ∷  -- MWG, Collections
    codes "CvTermName" ∷  -- IPTC Extension, CvTermDetails
    codes "Data" ∷  -- Google: a picture, also with a depth map or a sound
    codes "Event" ∷  -- IPTC Extension; MediaPro
    codes "ExtDescr" ∷  -- IPTC Core: ExtDescrAccessibility
    codes "Headline" ∷  -- Photoshop
    codes "History" ∷  -- Photoshop
    codes "ID=" ∷  -- RDF: an identifier
    codes "ImageDescription" ∷  -- Exif in XMP
    codes "ImageHistory" ∷  -- digiKam
    codes "Instructions" ∷  -- Photoshop
    codes "Keywords" ∷  -- PDF; MWG
    codes "Label" ∷  -- XMP Basic
    codes "LastKeyword" ∷  -- Microsoft Photo: LastKeywordXMP, LastKeywordIPTC
    codes "LayerName" ∷  -- Photoshop, TextLayers
    codes "LayerText" ∷  -- Photoshop, TextLayers
    codes "LicenseeImageNotes" ∷  -- PLUS
    codes "LicensorCity" ∷  -- PLUS: the address of who licenses the picture
    codes "LicensorCountry" ∷  -- PLUS
    codes "LicensorExtendedAddress" ∷  -- PLUS
    codes "LicensorNotes" ∷  -- PLUS
    codes "LicensorRegion" ∷  -- PLUS
    codes "LicensorStreetAddress" ∷  -- PLUS
    codes "MakerNote" ∷  -- Exif in XMP: a picture's maker note
    codes "Name" ∷  -- MWG, Regions and Keywords; IPTC Extension, Entity
    codes "Nickname" ∷  -- XMP Basic
    codes "Notes" ∷  -- albums of Adobe
    codes "OrganisationInImage" ∷  -- IPTC Extension: its name and code
    codes "PersonDisplayName" ∷  -- Microsoft Photo
    codes "PersonInImage" ∷  -- IPTC Extension
    codes "ProductInImage" ∷  -- IPTC Extension
    codes "RoutingNotes" ∷  -- Extensis
    codes "Scene" ∷  -- IPTC Core: codes, or what a program puts there
    codes "Subject=" ∷  -- PDF: an attribute, not Exif's SubjectArea
    codes "Subject>" ∷  -- PDF: an element
    codes "SubjectCode" ∷  -- IPTC Core
    codes "SupplementalCategories" ∷  -- Photoshop
    codes "TagName" ∷  -- IDimager
    codes "TagsList" ∷  -- digiKam
    codes "TextLayers" ∷  -- Photoshop
    codes "Title" ∷  -- PDF
    codes "UserComment" ∷  -- Exif in XMP
    codes "UserFields" ∷  -- MediaPro
    codes "address" ∷  -- as Iptc4xmpCore:CiAdrExtadr, of programs
    codes "alternateTitle" ∷  -- PRISM
    codes "caption" ∷  -- ACDSee
    codes "categories" ∷  -- ACDSee
    codes "comment" ∷  -- XMP dynamic media
    codes "description" ∷  -- Dublin Core
    codes "event" ∷  -- PRISM
    codes "fieldNotes" ∷  -- Darwin Core
    codes "hierarchicalSubject" ∷  -- Lightroom
    codes "image" ∷  -- XMP Basic, Thumbnail
    codes "keyword" ∷  -- PRISM; ACDSee: keywords
    codes "logComment" ∷  -- XMP dynamic media
    codes "nodeID" ∷  -- RDF: an identifier
    codes "notes" ∷  -- ACDSee
    codes "resource" ∷  -- RDF: an identifier
    codes "rights" ∷  -- Dublin Core
    codes "scene" ∷  -- XMP dynamic media
    codes "seriesTitle" ∷  -- PRISM
    codes "shotName" ∷  -- XMP dynamic media
    codes "subject" ∷  -- Dublin Core
    codes "subtitle" ∷  -- PRISM
    codes "title" ∷  -- Dublin Core
    codes "weightedFlatSubject" ∷  -- Lightroom
    []

-- identifiers of the picture that are empty, and the one that Windows writes
abbrev pub no_identifiers : List (List ℕ)
no_identifiers =
    codes "about=''" ∷
    codes "about=\"\"" ∷
    codes "about=\"uuid:faf5bdd5-ba3d-11da-ad31-d33d75182f1b\"" ∷
    []
