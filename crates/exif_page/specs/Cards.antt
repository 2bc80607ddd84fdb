-- The card of a picture.
use Rattle.std.specs.Prelude.{ℕ, List, [], ◌++◌, Option, None, Some, codes}
use denote.Ref.{Bor}
use Rattle.exif_page.specs.Escaping.{between, between_if}
use Rattle.exif_page.specs.Paths.{file_name}
use Rattle.exif_page.specs.declared.entries.Entry.{Entry}
use Rattle.exif_page.specs.declared.entries.Thumbnail.{Thumbnail}
use Rattle.exif_page.specs.declared.entries.Thumbnail.TheVariants.{Jpeg, Line}

-- an attribute, where there is a text for it
unfoldable pub attribute : List ℕ → Option (Bor (List ℕ)) → List ℕ
attribute name None = []
attribute name (Some text) =
    codes " data-" ++ (name ++ between (codes "=\"") text.now (codes "\""))

-- what the filters and the style read: the path, the camera, the orientation by which the style
-- turns the thumbnail, the day and the location
unfoldable pub attributes : Entry → List ℕ
attributes entry =
    attribute (codes "path") (Some entry.path)
    ++ (attribute (codes "camera") entry.camera
    ++ (attribute (codes "orientation") entry.orientation
    ++ (attribute (codes "day") entry.day
    ++ (attribute (codes "latitude") entry.latitude
    ++ attribute (codes "longitude") entry.longitude))))

-- the place of a thumbnail, which the script fills, or the line that says why there is none
unfoldable pub place : Thumbnail → List ℕ
place (Jpeg bytes) = codes "<span class=\"thumb\"></span>\n"
place (Line line) = between (codes "<p class=\"none\">") line.now (codes "</p>\n")

-- the thumbnail and the name
unfoldable pub picture : List ℕ → Thumbnail → List ℕ
picture name thumbnail = place thumbnail ++ between (codes "<h3>") name (codes "</h3>\n")

-- both within a link
unfoldable pub within : List ℕ → List ℕ → Thumbnail → List ℕ
within link name thumbnail =
    between (codes "<a class=\"open\" href=\"") link (codes "\">\n")
    ++ (picture name thumbnail ++ codes "</a>\n")

-- the same, where there is one
unfoldable pub opened : Option (Bor (List ℕ)) → List ℕ → Thumbnail → List ℕ
opened None name thumbnail = picture name thumbnail
opened (Some link) name thumbnail = within link.now name thumbnail

-- a location as a text with a geo URI (RFC 5870)
unfoldable pub link : List ℕ → List ℕ → List ℕ
link latitude longitude =
    between (codes "<p><a href=\"geo:") latitude (codes ",")
    ++ (between [] longitude (codes "\">")
    ++ (between [] latitude (codes ", ")
    ++ between [] longitude (codes "</a></p>\n")))

-- a location, where both numbers are there
unfoldable pub location : Option (Bor (List ℕ)) → Option (Bor (List ℕ)) → List ℕ
location None longitude = []
location (Some latitude) None = []
location (Some latitude) (Some longitude) = link latitude.now longitude.now

-- the lines below the name
unfoldable pub facts : Entry → List ℕ
facts entry =
    between (codes "<p class=\"path\">") entry.path.now (codes "</p>\n")
    ++ (between_if (codes "<p>") entry.time (codes "</p>\n")
    ++ (between_if (codes "<p>") entry.camera (codes "</p>\n")
    ++ (between_if (codes "<p>") entry.exposure (codes "</p>\n")
    ++ location entry.latitude entry.longitude)))

-- the name
abbrev pub name_of : Entry → List ℕ
name_of entry = file_name entry.path.now

-- a card: a list item with the thumbnail, the name and the lines
unfoldable pub card : Entry → List ℕ
card entry =
    codes "<li" ++ (attributes entry
    ++ (codes ">\n" ++ (opened entry.link (name_of entry) entry.thumbnail
    ++ (facts entry ++ codes "</li>\n"))))
