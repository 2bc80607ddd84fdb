-- Worked examples: names that are those of a location.
use Rattle.std.specs.Prelude.{◌≡◌, refl, true, false, [], ◌∷◌, map, replicate, codes}
use Rattle.exif_locations.specs.XmpNames.{is_location, is_word}

-- a point, a place and a cell
names : map (λ name. is_location name)
    (codes "georss:point" ∷ codes "geo:lat_long" ∷ codes "geo:point" ∷ codes "gml:pos"
    ∷ codes "coordinates" ∷ codes "x:lat" ∷ codes "x:lon" ∷ codes "x:lng" ∷ codes "x:city"
    ∷ codes "x:country" ∷ codes "photoshop:City" ∷ codes "cell:mcc" ∷ codes "cell:mnc"
    ∷ codes "dwc:locality" ∷ codes "Iptc4xmpExt:RatingRegion" ∷ [])
    ≡ replicate 15 true
unfolding is_location is_word
names = refl

-- what ends so, or begins so
numbers : map (λ name. is_location name)
    (codes "exif:GPSLatitude" ∷ codes "dwc:decimalLongitude" ∷ codes "drone-dji:RelativeAltitude"
    ∷ codes "drone-dji:GpsLongtitude" ∷ codes "x:Longtitude" ∷ [])
    ≡ replicate 5 true
unfolding is_location is_word
numbers = refl

-- a name that only begins as one, one with other letters, and the declaration of a prefix
no_names : map (λ name. is_location name)
    (codes "x:pointer" ∷ codes "x:CITY" ∷ codes "exifEX:ISOSpeedLatitudeyyy"
    ∷ codes "xmlns:location" ∷ codes "crs:Texture" ∷ [])
    ≡ replicate 5 false
unfolding is_location is_word
no_names = refl
