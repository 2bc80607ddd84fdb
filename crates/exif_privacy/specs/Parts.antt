-- The locations in one part of a file.
use Rattle.std.specs.Prelude.{ℕ, List, [], ◌∷◌, drop, map, Bool, true, false, Option, None, Some, if◌then◌else◌}
use Rattle.std.specs.Option.{option_map, option_to_list}
use Rattle.std.specs.Str.{bytes_eq}
use Rattle.exif_data_locations.specs.Locations.{data_erased}
use Rattle.exif_data_locations.specs.Regions.{all_zero, can_be_blanked as unread_in_data}
use Rattle.exif_data_locations.specs.Versions.{version_erased}
use Rattle.exif_data_locations.specs.declared.reason.Reason as data_why
use Rattle.exif_inventory.specs.declared.kind.Kind.{Kind}
use Rattle.exif_inventory.specs.declared.kind.Kind.TheVariants as kind
use Rattle.exif_locations.specs.Texts.{iptc_has_texts, xmp_has_texts}
use Rattle.exif_locations.specs.Unread as packets
use Rattle.exif_locations.specs.Unread.{because}
use Rattle.exif_locations.specs.declared.unread.Unread.{Unread}
use Rattle.exif_privacy.specs.declared.remaining.Reason.{Reason}
use Rattle.exif_privacy.specs.declared.remaining.Reason.TheVariants.{XmpNotRead, IptcNotRead, InExif, NotJudged, StillThere, GpsVersion, Texts}

-- an XMP packet without its locations
abbrev pub xmp_answer : Unread → List ℕ → List ℕ × Option Reason
xmp_answer unread bytes = because XmpNotRead (packets.xmp_answer unread bytes)

-- IPTC data without their locations
abbrev pub iptc_answer : Unread → List ℕ → List ℕ × Option Reason
iptc_answer unread bytes = because IptcNotRead (packets.iptc_answer unread bytes)

-- new bytes, which may hold texts, where there is no other reason
abbrev pub or_texts : (List ℕ → Bool) → List ℕ × Option Reason → List ℕ × Option Reason
or_texts has (new, Some why) = (new, Some why)
or_texts has (new, None) = (new, if has new then Some Texts else None)

-- an XMP packet without its locations, which may hold texts
abbrev pub xmp_judged : Unread → List ℕ → List ℕ × Option Reason
xmp_judged unread bytes = or_texts xmp_has_texts (xmp_answer unread bytes)

-- so IPTC data
abbrev pub iptc_judged : Unread → List ℕ → List ℕ × Option Reason
iptc_judged unread bytes = or_texts iptc_has_texts (iptc_answer unread bytes)

-- whether what this reason is about could be overwritten
abbrev pub can_be_blanked : Reason → Bool
can_be_blanked (XmpNotRead fault) = true
can_be_blanked (IptcNotRead fault) = true
can_be_blanked (InExif why) = unread_in_data why
can_be_blanked _ = false

-- new bytes, and the reason as a list
abbrev pub listed : List ℕ × Option Reason → List ℕ × List Reason
listed (new, why) = (new, option_to_list why)

-- new bytes, and why Exif data may still hold a location
abbrev pub in_exif : List ℕ × List data_why.Reason → List ℕ × List Reason
in_exif (new, whys) = (new, map InExif whys)

-- why data that are not looked at may hold a location: zeros hold none
abbrev pub unjudged : List ℕ → Option Reason
unjudged bytes = if all_zero bytes then None else Some NotJudged

-- the data of a part without their locations, and why they may still hold one; a JFIF header has 14
-- bytes (JFIF 1.02), and maybe a small picture, Adobe's segment has 12
abbrev pub part_answer : Unread → Kind → List ℕ → List ℕ × List Reason
part_answer unread kind.Exif bytes = in_exif (data_erased unread bytes)
part_answer unread kind.PhotoshopExif bytes = in_exif (data_erased unread bytes)
part_answer unread kind.Xmp bytes = listed (xmp_judged unread bytes)
part_answer unread kind.PhotoshopXmp bytes = listed (xmp_judged unread bytes)
part_answer unread kind.Iptc bytes = listed (iptc_judged unread bytes)
part_answer unread kind.Jfif bytes = listed (bytes, unjudged (drop 14 bytes))
part_answer unread kind.Adobe bytes = listed (bytes, unjudged (drop 12 bytes))
part_answer unread kind.JfifThumbnail bytes = listed (bytes, unjudged bytes)
part_answer unread kind.PhotoshopOther bytes = listed (bytes, unjudged bytes)
part_answer unread kind.ExtendedXmp bytes = listed (bytes, unjudged bytes)
part_answer unread kind.Comment bytes = listed (bytes, unjudged bytes)
part_answer unread kind.ContentCredentials bytes = listed (bytes, unjudged bytes)
part_answer unread kind.Trailer bytes = listed (bytes, unjudged bytes)
part_answer unread kind.Unknown bytes = listed (bytes, unjudged bytes)
part_answer unread kind.Broken bytes = listed (bytes, unjudged bytes)
part_answer unread _ bytes = (bytes, [])

-- why data that would change may hold a location: of those whose GPS data are a version alone these
-- reasons are known
abbrev pub changed_reasons : Option (List Reason) → List Reason
changed_reasons None = StillThere ∷ []
changed_reasons (Some whys) = GpsVersion ∷ whys

-- why data may hold a location: it would be erased, or else for the reasons why it would stay
abbrev pub reasons_from : Option (List Reason) → List ℕ → List ℕ × List Reason → List Reason
reasons_from version old (new, whys) =
    if bytes_eq new old then whys else changed_reasons version

-- the reasons of Exif data whose GPS data are no version alone
abbrev pub exif_reasons : Unread → List ℕ → List Reason
exif_reasons unread bytes = reasons_from None bytes (in_exif (data_erased unread bytes))

-- those of Exif data without the version of their GPS data, if these are no more
abbrev pub version_reasons : Unread → Kind → List ℕ → Option (List Reason)
version_reasons unread kind.Exif bytes =
    option_map (exif_reasons unread) (version_erased bytes)
version_reasons unread kind.PhotoshopExif bytes =
    option_map (exif_reasons unread) (version_erased bytes)
version_reasons unread _ bytes = None

-- the same of the data of a part
abbrev pub part_reasons : Unread → Kind → List ℕ → List Reason
part_reasons unread k bytes =
    reasons_from (version_reasons unread k bytes) bytes (part_answer unread k bytes)
