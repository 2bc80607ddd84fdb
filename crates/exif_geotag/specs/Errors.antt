-- Why a file is no track, in words.
use Rattle.std.specs.Prelude.{ℕ, List, codes, Option, Some, None}
use Rattle.exif_locations.specs.declared.xmp.fault.Fault.TheVariants.{Malformed, Doctype, Cut, Unbalanced}
use Rattle.exif_geotag.specs.declared.error.TrackError.{TrackError}
use Rattle.exif_geotag.specs.declared.error.TrackError.TheVariants.{Xml, Other, NotGpx, Empty}
use Rattle.exif_geotag.specs.declared.format.OtherFormat.{OtherFormat}
use Rattle.exif_geotag.specs.declared.format.OtherFormat.TheVariants.{Kml, Zip, Tcx, Nmea, Fit}

-- the same of a file that is of another format, if it is
abbrev pub named : Option OtherFormat → TrackError → TrackError
named (Some format) error = Other format
named None error = error

-- what a file of another format is, and what to do
abbrev pub other_text : OtherFormat → List ℕ
other_text Kml =
    codes "KML, not GPX; convert it, e.g. gpsbabel -i kml -f IN.kml -o gpx -F OUT.gpx"
other_text Zip =
    codes "a zip archive, not GPX; of KMZ, unzip and convert doc.kml, e.g. gpsbabel -i kml -f doc.kml -o gpx -F OUT.gpx"
other_text Tcx =
    codes "TCX, not GPX; convert it, e.g. gpsbabel -i gtrnctr -f IN.tcx -o gpx -F OUT.gpx"
other_text Nmea =
    codes "NMEA, not GPX; convert it, e.g. gpsbabel -i nmea -f IN.nmea -o gpx -F OUT.gpx"
other_text Fit =
    codes "FIT, not GPX; convert it, e.g. gpsbabel -i garmin_fit -f IN.fit -o gpx -F OUT.gpx"

-- why a file is no track
abbrev pub error_text : TrackError → List ℕ
error_text (Xml Malformed) = codes "XML is not well formed"
error_text (Xml Doctype) = codes "XML with a document type"
error_text (Xml Cut) = codes "XML ends too early"
error_text (Xml Unbalanced) = codes "XML is not well formed"
error_text (Other format) = other_text format
error_text NotGpx = codes "not a GPX file"
error_text Empty = codes "no track point with a time and a location"
