-- What a file is that is no GPX: KML (OGC 07-147r2), zip (PKWARE's APPNOTE, 4.3.7), TCX (Garmin's
-- Training Center Database), NMEA 0183, FIT (Garmin's FIT protocol, file header).
use Rattle.std.specs.Prelude.{ℕ, ◌&&◌, ◌||◌, nat_le, Bool, false, if◌then◌else◌, List, [], ◌∷◌, length, drop, codes, Option, Some, None}
use Rattle.exif_locations.specs.XmpNames.{begins}
use Rattle.exif_geotag.specs.declared.format.OtherFormat.{OtherFormat}
use Rattle.exif_geotag.specs.declared.format.OtherFormat.TheVariants.{Kml, Zip, Tcx, Nmea, Fit}

-- whether bytes contain a word
abbrev pub holds : List ℕ → List ℕ → Bool
holds word [] = false
holds word (byte ∷ bytes) = begins (byte ∷ bytes) word || holds word bytes

-- the header of FIT has this word behind eight bytes
abbrev pub is_fit : List ℕ → Bool
is_fit bytes = nat_le 8 (length bytes) && begins (drop 8 bytes) (codes ".FIT")

-- a line begins with a sentence of GPS, or of several systems
abbrev pub is_nmea : List ℕ → Bool
is_nmea bytes =
    begins bytes (codes "$GP") || (begins bytes (codes "$GN")
    || (holds (codes "\n$GP") bytes || holds (codes "\n$GN") bytes))

-- what XML is, by an element of it
abbrev pub xml_format : List ℕ → Option OtherFormat
xml_format bytes =
    if holds (codes "<kml") bytes then Some Kml
    else (if holds (codes "<TrainingCenterDatabase") bytes then Some Tcx else None)

-- the last one, if there is no other
abbrev pub or_sentences : List ℕ → Option OtherFormat → Option OtherFormat
or_sentences bytes (Some format) = Some format
or_sentences bytes None = if is_nmea bytes then Some Nmea else None

-- what a file is that is no GPX, where its bytes show it
abbrev pub other_format : List ℕ → Option OtherFormat
other_format bytes =
    if is_fit bytes then Some Fit
    else (if begins bytes (80 ∷ 75 ∷ 3 ∷ 4 ∷ []) then Some Zip
    else or_sentences bytes (xml_format bytes))
