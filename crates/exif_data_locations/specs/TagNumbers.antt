-- The tags whose values are a location, hold a text, or hold data of their own, each with its name
-- and where it is defined: TIFF 6.0, TIFF/EP (ISO 12234-2), Exif 2.32 and 3.0, DNG 1.6, GeoTIFF
-- (OGC 19-008), or the program that writes it.
use Rattle.std.specs.Prelude.{ℕ, List, [], ◌∷◌, ◌++◌, codes, replicate}

-- numbers that say where the picture lies on the earth
abbrev pub geo_tiff_tags : List ℕ
geo_tiff_tags =
    33550 ∷  -- ModelPixelScale (GeoTIFF)
    33920 ∷  -- IrasB Transformation Matrix (Intergraph; GeoTIFF 1.0)
    33922 ∷  -- ModelTiepoint (GeoTIFF)
    34264 ∷  -- ModelTransformation (GeoTIFF)
    34735 ∷  -- GeoKeyDirectory (GeoTIFF)
    34736 ∷  -- GeoDoubleParams (GeoTIFF)
    34737 ∷  -- GeoAsciiParams (GeoTIFF)
    50844 ∷  -- RPCCoefficient (GeoTIFF, RPCs in GeoTIFF)
    []

-- texts
abbrev pub text_tags : List ℕ
text_tags =
    269 ∷  -- DocumentName (TIFF)
    270 ∷  -- ImageDescription (TIFF)
    285 ∷  -- PageName (TIFF)
    33432 ∷  -- Copyright (TIFF)
    37510 ∷  -- UserComment (Exif)
    40091 ∷  -- XPTitle (Windows)
    40092 ∷  -- XPComment (Windows)
    40093 ∷  -- XPAuthor (Windows)
    40094 ∷  -- XPKeywords (Windows)
    40095 ∷  -- XPSubject (Windows)
    42038 ∷  -- ImageTitle (Exif 3.0)
    42112 ∷  -- GDAL_METADATA (GDAL)
    50255 ∷  -- Annotations (Photoshop)
    50898 ∷  -- a title (Panasonic)
    50899 ∷  -- the same
    50909 ∷  -- GEO_METADATA (DGIWG)
    []

-- data of their own, and pointers to directories that are not read
abbrev pub other_tags : List ℕ
other_tags =
    33424 ∷  -- a directory of Kodak
    34263 ∷  -- JPL Carto IFD
    37724 ∷  -- ImageSourceData (Photoshop)
    50740 ∷  -- DNGPrivateData (DNG)
    50828 ∷  -- OriginalRawFileData (DNG)
    65024 ∷  -- a directory of Kodak
    []

-- the codes of ASCII, JIS and Unicode before the text of a comment (Exif 2.32, 4.6.5 D)
abbrev pub character_codes : List (List ℕ)
character_codes =
    (codes "ASCII" ++ replicate 3 0) ∷ (codes "JIS" ++ replicate 5 0)
    ∷ (codes "UNICODE" ++ replicate 1 0) ∷ []
