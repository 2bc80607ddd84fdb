-- Parts that may still hold a location, in words.
use Rattle.std.specs.Prelude.{ℕ, List, ◌++◌, codes}
use Rattle.std.specs.Fmt.{decimal}
use Rattle.exif_data_locations.specs.ReasonTexts.{why_text}
use Rattle.exif_data_locations.specs.declared.reason.Reason as data_why
use Rattle.exif_data_locations.specs.declared.reason.Reason.TheVariants as in_data
use Rattle.exif_inventory.specs.KindTexts.{kind_text}
use Rattle.exif_inventory.specs.declared.kind.Kind.{Kind}
use Rattle.exif_locations.specs.FaultTexts.{iptc_text, xmp_text}
use Rattle.exif_privacy.specs.declared.remaining.Remaining.{Remaining}
use Rattle.exif_privacy.specs.declared.remaining.Reason.{Reason}
use Rattle.exif_privacy.specs.declared.remaining.Reason.TheVariants as why

-- a text, a part by its kind and its offset, and another text
abbrev pub part_text : List ℕ → Kind → ℕ → List ℕ → List ℕ
part_text before name offset behind =
    before ++ (kind_text name ++ (codes " at offset " ++ (decimal offset ++ behind)))

-- why Exif data of this kind and offset may still hold a location
abbrev pub exif_text : Kind → ℕ → data_why.Reason → List ℕ
exif_text name offset in_data.NotChanged =
    part_text (codes "still there: ") name offset (codes ", which can't be changed")
exif_text name offset in_data.GpsShared =
    part_text (codes "still there: GPS data of ") name offset (codes ", which share their bytes")
exif_text name offset in_data.GpsNotFollowed =
    part_text (codes "GPS data may be left: GPS pointers of ") name offset
    (codes " are not followed")
exif_text name offset why =
    part_text (codes "a location may be left in ") name offset (codes ": " ++ why_text why)

-- why a part of this kind and offset may still hold a location
abbrev pub reason_text : Kind → ℕ → Reason → List ℕ
reason_text name offset (why.XmpNotRead fault) =
    part_text (codes "still there: ") name offset
    (codes ", which can't be read (" ++ (xmp_text fault ++ codes ")"))
reason_text name offset (why.IptcNotRead fault) =
    part_text (codes "still there: ") name offset
    (codes ", which can't be read (" ++ (iptc_text fault ++ codes ")"))
reason_text name offset (why.InExif reason) = exif_text name offset reason
reason_text name offset why.Texts =
    part_text (codes "a location may be left: ") name offset
    (codes " has texts, which are not judged")
reason_text name offset why.NotJudged =
    part_text (codes "still there: ") name offset (codes ", which may hold a location")
reason_text name offset why.StillThere =
    codes "a location is still there: " ++ (kind_text name
    ++ (codes " at offset " ++ decimal offset))
reason_text name offset why.GpsVersion =
    codes "the version of GPS data is still there: " ++ (kind_text name
    ++ (codes " at offset " ++ decimal offset))

-- a part that may still hold a location
abbrev pub stays_text : Remaining → List ℕ
stays_text stays = reason_text stays.part.kind stays.part.offset stays.why
