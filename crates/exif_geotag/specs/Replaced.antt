-- What a picture has of the location that is replaced (Exif 2.32, 4.6.6: the tags of GPS by their
-- numbers).
use Rattle.std.specs.Prelude.{◌||◌, Bool, true, false, if◌then◌else◌, List, [], ◌∷◌, ◌++◌, Some, None}
use Rattle.exif_table.specs.declared.context.Context.TheVariants.{Gps}
use Rattle.exif_types.specs.Lookup.{last_named}
use Rattle.exif_types.specs.declared.field.Field.{Field}
use Rattle.exif_types.specs.declared.tag.Tag.{Tag}

-- whether a picture has a field
abbrev pub has : List Field → Tag → Bool
has fields tag =
    elim (last_named fields tag (record { 0 = 0 })) [ Some field ↦ true | None ↦ false ]

-- GPSAltitudeRef and GPSAltitude
abbrev pub altitude_tags : List Tag
altitude_tags = (Gps, 5) ∷ (Gps, 6) ∷ []

-- all but GPSVersionID, the latitude, the longitude, the altitude, GPSTimeStamp and GPSDateStamp
abbrev pub old_tags : List Tag
old_tags =
    (Gps, 8) ∷ (Gps, 9) ∷ (Gps, 10) ∷ (Gps, 11) ∷ (Gps, 12) ∷ (Gps, 13) ∷ (Gps, 14) ∷ (Gps, 15)
    ∷ (Gps, 16) ∷ (Gps, 17) ∷ (Gps, 18) ∷ (Gps, 19) ∷ (Gps, 20) ∷ (Gps, 21) ∷ (Gps, 22)
    ∷ (Gps, 23) ∷ (Gps, 24) ∷ (Gps, 25) ∷ (Gps, 26) ∷ (Gps, 27) ∷ (Gps, 28) ∷ (Gps, 30)
    ∷ (Gps, 31) ∷ []

-- tags, and behind them those of others that a picture has
abbrev pub found_in : List Field → List Tag → List Tag → List Tag
found_in fields [] found = found
found_in fields (tag ∷ tags) found =
    found_in fields tags (if has fields tag then found ++ tag ∷ [] else found)

-- the altitude, unless the new location has one
abbrev pub old_altitude : List Field → Bool → List Tag
old_altitude fields has_altitude =
    if has_altitude then [] else found_in fields altitude_tags []

-- whether a picture has a latitude or a longitude
abbrev pub is_located : List Field → Bool
is_located fields = has fields (Gps, 2) || has fields (Gps, 4)

-- the fields of the old location, where there is one
abbrev pub stale_tags : List Field → Bool → List Tag
stale_tags fields has_altitude =
    if is_located fields
    then found_in fields old_tags (old_altitude fields has_altitude) else []
