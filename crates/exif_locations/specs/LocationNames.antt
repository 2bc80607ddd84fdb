-- The names of XMP properties that are a location, without their prefixes, each with where it is
-- defined: Photoshop and XMP dynamic media (XMP Specification, Part 2), IPTC Core and Extension
-- (IPTC Photo Metadata Standard), Dublin Core (ISO 15836), PRISM (PRISM 3.0), Darwin Core (TDWG),
-- GeoRSS and GML (OGC), W3C Basic Geo, or the program that writes it.
use Rattle.std.specs.Prelude.{ℕ, List, [], ◌∷◌, codes}

-- the names, in the order of their bytes
abbrev pub location_names : List (List ℕ)
location_names =
    codes "City" ∷  -- Photoshop; IPTC Extension, LocationDetails
    codes "Country" ∷  -- Photoshop
    codes "CountryCode" ∷  -- IPTC Core; IPTC Extension, LocationDetails
    codes "CountryName" ∷  -- IPTC Extension, LocationDetails
    codes "LRFTargetLat" ∷  -- DJI: what the laser range finder of a drone points at
    codes "LRFTargetLon" ∷  -- DJI
    codes "Location" ∷  -- IPTC Core; MediaPro
    codes "LocationCreated" ∷  -- IPTC Extension
    codes "LocationId" ∷  -- IPTC Extension, LocationDetails
    codes "LocationName" ∷  -- IPTC Extension, LocationDetails
    codes "LocationShown" ∷  -- IPTC Extension
    codes "ProvinceState" ∷  -- IPTC Extension, LocationDetails
    codes "RatingRegion" ∷  -- IPTC Extension, Rating
    codes "State" ∷  -- Photoshop
    codes "Sublocation" ∷  -- IPTC Extension, LocationDetails
    codes "WorldRegion" ∷  -- IPTC Extension, LocationDetails
    codes "alt" ∷  -- W3C Basic Geo: the height
    codes "box" ∷  -- GeoRSS
    codes "cellid" ∷  -- the cell of a mobile network (Sony Ericsson, cell/1.0)
    codes "cgi" ∷  -- the same
    codes "city" ∷  -- as photoshop:City, of programs
    codes "continent" ∷  -- Darwin Core, Location
    codes "coordinates" ∷  -- GML; KML
    codes "country" ∷  -- as photoshop:Country, of programs; Darwin Core, Location
    codes "countryCode" ∷  -- Darwin Core, Location
    codes "county" ∷  -- Darwin Core, Location
    codes "coverage" ∷  -- Dublin Core
    codes "dctermsLocation" ∷  -- Darwin Core
    codes "featurename" ∷  -- GeoRSS
    codes "footprintWKT" ∷  -- Darwin Core, Location
    codes "higherGeography" ∷  -- Darwin Core, Location
    codes "higherGeographyID" ∷  -- Darwin Core, Location
    codes "island" ∷  -- Darwin Core, Location
    codes "islandGroup" ∷  -- Darwin Core, Location
    codes "lac" ∷  -- the area of a cell of a mobile network
    codes "lat" ∷  -- W3C Basic Geo
    codes "lat_long" ∷  -- W3C Basic Geo
    codes "line" ∷  -- GeoRSS
    codes "lng" ∷  -- as geo:long, of programs
    codes "locality" ∷  -- Darwin Core, Location; vCard
    codes "location" ∷  -- PRISM; PRISM image metadata; XMP dynamic media
    codes "locationID" ∷  -- Darwin Core, Location
    codes "locationRemarks" ∷  -- Darwin Core, Location
    codes "lon" ∷  -- as geo:long, of programs; GPX
    codes "long" ∷  -- W3C Basic Geo
    codes "mcc" ∷  -- the country of a cell of a mobile network
    codes "mnc" ∷  -- the network of a cell of a mobile network
    codes "municipality" ∷  -- Darwin Core, Location
    codes "point" ∷  -- GeoRSS; W3C Basic Geo
    codes "polygon" ∷  -- GeoRSS
    codes "pos" ∷  -- GML
    codes "posList" ∷  -- GML
    codes "province" ∷  -- as Iptc4xmpExt:ProvinceState, of programs
    codes "shotLocation" ∷  -- XMP dynamic media
    codes "state" ∷  -- as photoshop:State, of programs
    codes "stateProvince" ∷  -- Darwin Core, Location
    codes "verbatimCoordinates" ∷  -- Darwin Core, Location
    codes "verbatimLocality" ∷  -- Darwin Core, Location
    codes "waterBody" ∷  -- Darwin Core, Location
    []

-- how the names of numbers end that are a location (`ISOSpeedLatitudeyyy` is none)
abbrev pub location_endings : List (List ℕ)
location_endings =
    codes "atitude" ∷  -- latitude: Exif, DJI, Darwin Core
    codes "ltitude" ∷  -- altitude: Exif, DJI
    codes "ongitude" ∷  -- longitude: Exif, DJI, Darwin Core
    codes "ongtitude" ∷  -- longitude as DJI spells it: GpsLongtitude
    []
