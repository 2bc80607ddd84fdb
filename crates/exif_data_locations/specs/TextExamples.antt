-- Worked examples: which fields and resources are a location, or may name one.
use Rattle.std.specs.Prelude.{◌≡◌, ◌++◌, refl, true, false, [], ◌∷◌, map, replicate, codes, Some, None}
use Rattle.exif_inventory.specs.Resources.{resource_kind}
use Rattle.exif_locations.specs.Words.{begins_with}
use Rattle.exif_table.specs.declared.context.Context.TheVariants.{Tiff, Exif, Gps}
use Rattle.exif_data_locations.specs.FieldRegions.{held_by}
use Rattle.exif_data_locations.specs.Resources.{what_of}
use Rattle.exif_data_locations.specs.Texts.{shown_why, shows_comment}
use Rattle.exif_data_locations.specs.declared.field.Holds.TheVariants.{One}
use Rattle.exif_data_locations.specs.declared.region.What.TheVariants.{GeoTiff, Residual, Other}
use Rattle.exif_data_locations.specs.declared.reason.Reason.TheVariants.{NotSearched, OtherResource, Text}

-- the numbers of a satellite's picture, and a matrix
numbers : map held_by (50844 ∷ 33920 ∷ []) ≡ replicate 2 (Some (One GeoTiff))
numbers = refl

-- DocumentName, PageName, Copyright, the metadata of GDAL, annotations and GEO_METADATA
texts : map (λ number. shown_why (Tiff, number)) (269 ∷ 285 ∷ 33432 ∷ 42112 ∷ 50255 ∷ 50909 ∷ [])
    ≡ map (λ number. Some (Text (Tiff, number))) (269 ∷ 285 ∷ 33432 ∷ 42112 ∷ 50255 ∷ 50909 ∷ [])
texts = refl

-- ImageTitle, and a comment in either directory
titles : shown_why (Exif, 42038) ∷ shown_why (Exif, 37510) ∷ shown_why (Tiff, 37510) ∷ []
    ≡ Some (Text (Exif, 42038)) ∷ Some (Text (Exif, 37510)) ∷ Some (Text (Tiff, 37510)) ∷ []
titles = refl

-- a directory of Kodak, the layers of Photoshop, private data and a raw file
others : map (λ number. shown_why (Tiff, number)) (33424 ∷ 37724 ∷ 50740 ∷ 50828 ∷ [])
    ≡ map (λ number. Some (NotSearched (Tiff, number))) (33424 ∷ 37724 ∷ 50740 ∷ 50828 ∷ [])
others = refl

-- the maker of the camera, and a number of GPS data
none : shown_why (Tiff, 271) ∷ shown_why (Gps, 270) ∷ [] ≡ replicate 2 None
none = refl

-- comments without a character code, of 5, 8 and 9 bytes, and one with such a code
comments : map shows_comment (codes "Basel" ∷ codes "Baselbad" ∷ codes "Baselbiet"
    ∷ (codes "ASCII" ++ (replicate 3 0 ++ codes "Basel")) ∷ [])
    ≡ replicate 4 true
unfolding begins_with
comments = refl

-- codes alone or before spaces, zeros and spaces
no_comments : map shows_comment ((codes "ASCII" ++ replicate 3 0)
    ∷ (codes "UNICODE" ++ (0 ∷ replicate 4 32)) ∷ (codes "JIS" ++ replicate 9 0)
    ∷ replicate 20 0 ∷ replicate 3 32 ∷ [] ∷ [])
    ≡ replicate 6 false
unfolding begins_with
no_comments = refl

-- XML, a caption, a thumbnail, data of programs, and more Exif data, and the same of zeros
resources : map (λ number. what_of (resource_kind number 5) (codes "Basel"))
    (0x3EA ∷ 0x3F0 ∷ 0x40C ∷ 0x1F40 ∷ 0x423 ∷ [])
    ≡ replicate 5 (Residual OtherResource)
resources = refl

no_resources : map (λ number. what_of (resource_kind number 5) (replicate 5 0))
    (0x3EA ∷ 0x3F0 ∷ 0x40C ∷ 0x1F40 ∷ 0x423 ∷ [])
    ≡ replicate 5 Other
no_resources = refl
