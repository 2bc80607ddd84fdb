-- What people sort pictures by (Metadata Working Group, Guidelines for Handling Image Metadata,
-- 2.0: XMP counts before IPTC).
use Rattle.std.specs.Prelude.{ℕ, ℤ, pos, negsuc, ◌==◌, List, [], ◌∷◌, ◌++◌, length, map, codes, Option, None, Some, if◌then◌else◌}
use Rattle.std.specs.Str.{bytes_eq}
use Rattle.exif_iptc.specs.Values.{DatasetValue}
use Rattle.exif_xmp.specs.Properties.{PropertyView, bytes_view}
use Rattle.exif_values.specs.Arrays.{array_of, first_text, preferred_text, text_or, texts_of}
use Rattle.exif_values.specs.Datasets.{dataset_texts, first_dataset}
use Rattle.exif_values.specs.Regions.{microsoft_names, region_names}
use Rattle.exif_values.specs.Values.{Found}
use Rattle.exif_values.specs.declared.sorting.Sorting.{Sorting}

-- what people sort a picture by
pub record Sorted : Type 0 where
  pub rating : Option ℤ
  pub label : Option (List ℕ)
  pub keywords : List (List ℕ)
  pub title : Option (List ℕ)
  pub description : Option (List ℕ)
  pub creator : Option (List ℕ)
  pub copyright : Option (List ℕ)
  pub faces : List (List ℕ)
  pub date : Option (List ℕ)

-- that of the program
abbrev pub sorting_view : Sorting → Sorted
sorting_view s = record {
  rating = s.rating;
  label = bytes_view s.label;
  keywords = map (λ t. t.items) s.keywords.items;
  title = bytes_view s.title;
  description = bytes_view s.description;
  creator = bytes_view s.creator;
  copyright = bytes_view s.copyright;
  faces = map (λ t. t.items) s.faces.items;
  date = bytes_view s.date;
}

-- the rating that a text says: -1, rejected, to 5
abbrev pub rating_from : List ℕ → Option ℤ
rating_from text =
    if bytes_eq text (codes "-1") then Some (negsuc 0) else
    (if bytes_eq text (codes "0") then Some (pos 0) else
    (if bytes_eq text (codes "1") then Some (pos 1) else
    (if bytes_eq text (codes "2") then Some (pos 2) else
    (if bytes_eq text (codes "3") then Some (pos 3) else
    (if bytes_eq text (codes "4") then Some (pos 4) else
    (if bytes_eq text (codes "5") then Some (pos 5) else None))))))

-- the text of a property that is no array
abbrev pub property_text : List ℕ → List ℕ → List PropertyView → Option (List ℕ)
property_text namespace name ps = first_text (array_of namespace name ps)

-- the rating
abbrev pub rating_in : Option (List ℕ) → Option ℤ
rating_in None = None
rating_in (Some text) = rating_from text

abbrev pub rating_of : List PropertyView → Option ℤ
rating_of ps =
    rating_in (property_text (codes "http://ns.adobe.com/xap/1.0/") (codes "xmp:Rating") ps)

-- the label
abbrev pub label_of : List PropertyView → Option (List ℕ)
label_of ps = property_text (codes "http://ns.adobe.com/xap/1.0/") (codes "xmp:Label") ps

-- a text, or else that of a dataset
abbrev pub or_dataset : Option (List ℕ) → ℕ → List DatasetValue → Option (List ℕ)
or_dataset text number values = text_or text (first_dataset number values)

-- the items of an array of Dublin Core
abbrev pub dublin_core : List ℕ → List PropertyView → List PropertyView
dublin_core name ps = array_of (codes "http://purl.org/dc/elements/1.1/") name ps

-- a text of it in several languages, or else that of a dataset
abbrev pub title_of : List ℕ → ℕ → Found → Option (List ℕ)
title_of name number found =
    or_dataset (preferred_text (dublin_core name found.xmp)) number found.iptc

-- texts, or else others
abbrev pub texts_or : List (List ℕ) → List (List ℕ) → List (List ℕ)
texts_or [] others = others
texts_or (text ∷ texts) others = text ∷ texts

-- the texts of an array of Dublin Core, or else those of datasets
abbrev pub keywords_of : List ℕ → ℕ → Found → List (List ℕ)
keywords_of name number found =
    texts_or (texts_of (dublin_core name found.xmp)) (dataset_texts number found.iptc)

-- texts, each behind `; `
abbrev pub behind_all : List (List ℕ) → List ℕ
behind_all [] = []
behind_all (text ∷ texts) = codes "; " ++ (text ++ behind_all texts)

-- texts as one, if there is one
abbrev pub joined : List (List ℕ) → Option (List ℕ)
joined [] = None
joined (text ∷ texts) = Some (text ++ behind_all texts)

-- the creators as one text
abbrev pub creator_of : Found → Option (List ℕ)
creator_of found = joined (keywords_of (codes "dc:creator") 80 found)

-- the people who are named in no region
abbrev pub people_of : List PropertyView → List (List ℕ)
people_of ps =
    texts_of (array_of (codes "http://iptc.org/std/Iptc4xmpExt/2008-02-29/")
    (codes "Iptc4xmpExt:PersonInImage") ps)

-- the names of the people in the picture
abbrev pub faces_of : List PropertyView → List (List ℕ)
faces_of ps = texts_or (region_names ps) (texts_or (microsoft_names ps) (people_of ps))

-- a date with a time behind it, if there is one
abbrev pub timed : List ℕ → Option (List ℕ) → List ℕ
timed date None = date
timed date (Some time) = date ++ (32 ∷ time)

abbrev pub dated_at : Option (List ℕ) → Option (List ℕ) → Option (List ℕ)
dated_at None time = None
dated_at (Some date) time = Some (timed date time)

-- the date of IPTC data, with the time
abbrev pub dated : List DatasetValue → Option (List ℕ)
dated values = dated_at (first_dataset 55 values) (first_dataset 60 values)

-- when the picture was taken, as it is written
abbrev pub date_of : Found → Option (List ℕ)
date_of found =
    text_or (property_text (codes "http://ns.adobe.com/exif/1.0/")
    (codes "exif:DateTimeOriginal") found.xmp)
    (text_or (property_text (codes "http://ns.adobe.com/photoshop/1.0/")
    (codes "photoshop:DateCreated") found.xmp)
    (dated found.iptc))

-- what people sort a picture by that has these values
abbrev pub sorting_of : Found → Sorted
sorting_of found = record {
  rating = rating_of found.xmp;
  label = label_of found.xmp;
  keywords = keywords_of (codes "dc:subject") 25 found;
  title = title_of (codes "dc:title") 5 found;
  description = title_of (codes "dc:description") 120 found;
  creator = creator_of found;
  copyright = title_of (codes "dc:rights") 116 found;
  faces = faces_of found.xmp;
  date = date_of found;
}
