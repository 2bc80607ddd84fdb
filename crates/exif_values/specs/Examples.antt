-- Worked examples: values as exiftool 12.57 writes and reads them.
use Rattle.std.specs.Prelude.{ℕ, ◌≡◌, refl, List, [], ◌∷◌, ◌++◌, codes, pos, negsuc, Option, Some, None}
use Rattle.exif_iptc.specs.Values.{DatasetValue, TextIs}
use Rattle.exif_iptc.specs.declared.kind.Kind.TheVariants as kind
use Rattle.exif_xmp.specs.Properties.{PropertyView}
use Rattle.exif_xmp.specs.declared.property.Form.TheVariants.{Text}
use Rattle.exif_values.specs.Sorting.{date_of, faces_of, rating_from, sorting_of, title_of}

-- a property with a text, and one with a language
abbrev property_in : Option (List ℕ) → List ℕ → List ℕ → List ℕ → PropertyView
property_in language namespace path text = record {
  namespace = namespace;
  path = path;
  text = text;
  language = language;
  value = record { start = 0; end = 0 };
  whole = record { start = 0; end = 0 };
  form = Text;
}

abbrev property : List ℕ → List ℕ → List ℕ → PropertyView
property namespace path text = property_in None namespace path text

abbrev dc : List ℕ
dc = codes "http://purl.org/dc/elements/1.1/"

abbrev regions : List ℕ
regions = codes "http://www.metadataworkinggroup.com/schemas/regions/"

-- a dataset of record 2
abbrev dataset : ℕ → List ℕ → DatasetValue
dataset number text = record {
  dataset = record { record_number = 2; number = number; start = 0; end = 0 };
  name = None;
  kind = kind.Text;
  content = TextIs text;
}

-- exiftool -XMP-dc:Creator=Ann -XMP-dc:Creator=Bob -XMP-dc:Rights=.. -XMP-dc:Subject=beach
-- -XMP-dc:Subject=sea -XMP-dc:Title-de=.. -XMP-dc:Title=Strand -XMP-xmp:Label=Red
-- -XMP-xmp:Rating=4 -XMP-exif:DateTimeOriginal=.. -RegionInfo=..
abbrev written : List PropertyView
written =
    property dc (codes "dc:creator[1]") (codes "Ann") ∷
    property dc (codes "dc:creator[2]") (codes "Bob") ∷
    property_in (Some (codes "x-default")) dc (codes "dc:rights[1]") (codes "(c) Ann") ∷
    property dc (codes "dc:subject[1]") (codes "beach") ∷
    property dc (codes "dc:subject[2]") (codes "sea") ∷
    property_in (Some (codes "de")) dc (codes "dc:title[1]") (codes "Am Strand") ∷
    property_in (Some (codes "x-default")) dc (codes "dc:title[2]") (codes "Strand") ∷
    property (codes "http://ns.adobe.com/exif/1.0/") (codes "exif:DateTimeOriginal")
    (codes "2024-05-01T12:30:00+02:00") ∷
    property regions (codes "mwg-rs:Regions/mwg-rs:RegionList[1]/mwg-rs:Name") (codes "Ann") ∷
    property regions (codes "mwg-rs:Regions/mwg-rs:RegionList[1]/mwg-rs:Type") (codes "Face") ∷
    property regions (codes "mwg-rs:Regions/mwg-rs:RegionList[2]/mwg-rs:Name") (codes "Rex") ∷
    property regions (codes "mwg-rs:Regions/mwg-rs:RegionList[2]/mwg-rs:Type") (codes "Pet") ∷
    property regions (codes "mwg-rs:Regions/mwg-rs:RegionList[3]/mwg-rs:Type") (codes "Face") ∷
    property regions (codes "mwg-rs:Regions/mwg-rs:RegionList[3]/mwg-rs:Name") (codes "Bob") ∷
    property (codes "http://ns.adobe.com/xap/1.0/") (codes "xmp:Label") (codes "Red") ∷
    property (codes "http://ns.adobe.com/xap/1.0/") (codes "xmp:Rating") (codes "4") ∷ []

-- XMP counts before IPTC, which has the description
everything : sorting_of (record {
  xmp = written;
  iptc = dataset 25 (codes "other") ∷ dataset 120 (codes "Dunes") ∷ [];
  faults = [];
})
    ≡ record {
      rating = Some (pos 4);
      label = Some (codes "Red");
      keywords = codes "beach" ∷ codes "sea" ∷ [];
      title = Some (codes "Strand");
      description = Some (codes "Dunes");
      creator = Some (codes "Ann; Bob");
      copyright = Some (codes "(c) Ann");
      faces = codes "Ann" ∷ codes "Bob" ∷ [];
      date = Some (codes "2024-05-01T12:30:00+02:00");
    }
everything = refl

-- exiftool -IPTC:Keywords=.. -IPTC:ObjectName=.. -IPTC:By-line=.. -IPTC:CopyrightNotice=..
-- -IPTC:DateCreated=.. -IPTC:TimeCreated=..
iptc_alone : sorting_of (record {
  xmp = [];
  iptc = dataset 5 (codes "Strand") ∷ dataset 25 (codes "beach") ∷ dataset 25 (codes "sea")
      ∷ dataset 55 (codes "2024:05:01") ∷ dataset 60 (codes "12:30:00+02:00")
      ∷ dataset 80 (codes "Ann") ∷ dataset 116 (codes "(c) Ann") ∷ [];
  faults = [];
})
    ≡ record {
      rating = None;
      label = None;
      keywords = codes "beach" ∷ codes "sea" ∷ [];
      title = Some (codes "Strand");
      description = None;
      creator = Some (codes "Ann");
      copyright = Some (codes "(c) Ann");
      faces = [];
      date = Some (codes "2024:05:01 12:30:00+02:00");
    }
iptc_alone = refl

-- ratings: a picture that is rejected, one with a fraction, and one that is none
rejected : rating_from (codes "-1") ≡ Some (negsuc 0)
rejected = refl

half_a_star : rating_from (codes "3.5") ≡ None
half_a_star = refl

six_stars : rating_from (codes "6") ≡ None
six_stars = refl

-- the prefix of another namespace is not the usual one
other_namespace : title_of (codes "dc:title") 5 (record {
  xmp = property (codes "http://example.com/") (codes "dc:title[1]") (codes "x") ∷ [];
  iptc = [];
  faults = [];
}) ≡ None
other_namespace = refl

-- two packets have a title: the first counts, and an empty one is none
two_packets : title_of (codes "dc:title") 5 (record {
  xmp = property dc (codes "dc:title[1]") (codes "first")
      ∷ property dc (codes "dc:title[1]") (codes "second") ∷ [];
  iptc = [];
  faults = [];
}) ≡ Some (codes "first")
two_packets = refl

empty_title : title_of (codes "dc:title") 5 (record {
  xmp = property dc (codes "dc:title[1]") [] ∷ [];
  iptc = dataset 5 (codes "Strand") ∷ [];
  faults = [];
}) ≡ Some (codes "Strand")
empty_title = refl

-- exiftool -RegionInfoMP=.., and -XMP-iptcExt:PersonInImage=..
microsoft : faces_of (property (codes "http://ns.microsoft.com/photo/1.2/")
    (codes "MP:RegionInfo/MPRI:Regions[1]/MPReg:PersonDisplayName") (codes "Cleo") ∷ [])
    ≡ codes "Cleo" ∷ []
microsoft = refl

person : faces_of (property (codes "http://iptc.org/std/Iptc4xmpExt/2008-02-29/")
    (codes "Iptc4xmpExt:PersonInImage[1]") (codes "Dan") ∷ []) ≡ codes "Dan" ∷ []
person = refl

-- Photoshop's date, where there is no other
photoshop : date_of (record {
  xmp = property (codes "http://ns.adobe.com/photoshop/1.0/") (codes "photoshop:DateCreated")
      (codes "2024-05-01") ∷ [];
  iptc = dataset 55 (codes "2023:01:01") ∷ [];
  faults = [];
}) ≡ Some (codes "2024-05-01")
photoshop = refl
