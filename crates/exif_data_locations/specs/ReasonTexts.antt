-- Why Exif data may still hold a location, in words.
use Rattle.std.specs.Prelude.{ℕ, List, ◌++◌, codes}
use Rattle.std.specs.Fmt.{decimal}
use Rattle.exif_locations.specs.FaultTexts.{iptc_text, xmp_text}
use Rattle.exif_types.specs.TagTexts.{tag_text}
use Rattle.exif_data_locations.specs.declared.reason.Reason.{Reason}
use Rattle.exif_data_locations.specs.declared.reason.Reason.TheVariants as why

-- why Exif data may still hold a location
abbrev pub why_text : Reason → List ℕ
why_text why.NotChanged = codes "the data can't be read"
why_text why.GpsShared = codes "GPS data share their bytes with other data"
why_text why.GpsNotFollowed = codes "GPS pointers are not followed"
why_text why.NotReadWhole = codes "some of the data can't be read"
why_text why.SubIfdsNotRead = codes "SubIFDs are not read"
why_text why.MakerNote = codes "the maker note is not read"
why_text why.StreamsNotSearched = codes "the JPEG streams of the picture are not searched"
why_text (why.XmpNotRead tag fault) =
    codes "the XMP packet of tag " ++ (decimal tag
    ++ (codes " can't be read (" ++ (xmp_text fault ++ codes ")")))
why_text (why.IptcNotRead tag fault) =
    codes "the IPTC data of tag " ++ (decimal tag
    ++ (codes " can't be read (" ++ (iptc_text fault ++ codes ")")))
why_text why.ResourcesNotRead = codes "resources of Photoshop can't be read"
why_text why.ExifResource = codes "a resource of Photoshop holds Exif data"
why_text why.OtherResource = codes "a resource of Photoshop is not searched"
why_text (why.Texts tag) = codes "texts of tag " ++ (decimal tag ++ codes " are not judged")
why_text (why.Text tag) = codes "the text of " ++ (tag_text tag ++ codes " is not judged")
why_text (why.NotSearched tag) = codes "the value of " ++ (tag_text tag ++ codes " is not searched")
why_text (why.TypeNotKnown tag) =
    codes "the type of tag " ++ (decimal tag ++ codes " is not known")
why_text why.Thumbnail = codes "the thumbnail may hold a location"
why_text why.Shared =
    codes "XMP, IPTC or GeoTIFF data, or the thumbnail, share their bytes with other data"
