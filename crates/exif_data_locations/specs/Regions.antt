-- Regions of Exif data, and the locations in them.
use Rattle.std.specs.Prelude.{ℕ, ◌+◌, ◌==◌, ◌≤◌, List, [], ◌∷◌, ◌++◌, length, take, drop, replicate, Bool, true, false, if◌then◌else◌, Option, None, Some}
use Rattle.std.specs.List.{list_all}
use Rattle.exif_locations.specs.Texts.{iptc_has_texts, xmp_has_texts}
use Rattle.exif_locations.specs.Unread as packets
use Rattle.exif_locations.specs.Unread.{because}
use Rattle.exif_locations.specs.declared.unread.Unread.{Unread}
use Rattle.exif_data_locations.specs.declared.region.Region.{Region}
use Rattle.exif_data_locations.specs.declared.region.What.{What}
use Rattle.exif_data_locations.specs.declared.region.What.TheVariants as what
use Rattle.exif_data_locations.specs.declared.reason.Reason.{Reason}
use Rattle.exif_data_locations.specs.declared.reason.Reason.TheVariants.{XmpNotRead, IptcNotRead, Texts}

-- whether all bytes are zero
abbrev pub all_zero : List ℕ → Bool
all_zero bytes = list_all (λ b. b == 0) bytes

-- an XMP packet without its locations
abbrev pub xmp_answer : ℕ → Unread → List ℕ → List ℕ × Option Reason
xmp_answer tag unread bytes = because (XmpNotRead tag) (packets.xmp_answer unread bytes)

-- IPTC data without their locations
abbrev pub iptc_answer : ℕ → Unread → List ℕ → List ℕ × Option Reason
iptc_answer tag unread bytes = because (IptcNotRead tag) (packets.iptc_answer unread bytes)

-- whether what this reason is about could be overwritten
abbrev pub can_be_blanked : Reason → Bool
can_be_blanked (XmpNotRead tag fault) = true
can_be_blanked (IptcNotRead tag fault) = true
can_be_blanked _ = false

-- bytes, and why they may still hold a location: for this reason, if for no other and if a test says
-- so
abbrev pub or_if : (List ℕ → Bool) → Reason → List ℕ × Option Reason → List ℕ × Option Reason
or_if test why (new, Some other) = (new, Some other)
or_if test why (new, None) = (new, if test new then Some why else None)

-- the same of a packet, which may hold texts
abbrev pub xmp_judged : ℕ → Unread → List ℕ → List ℕ × Option Reason
xmp_judged tag unread bytes = or_if xmp_has_texts (Texts tag) (xmp_answer tag unread bytes)

-- the same of IPTC data
abbrev pub iptc_judged : ℕ → Unread → List ℕ → List ℕ × Option Reason
iptc_judged tag unread bytes = or_if iptc_has_texts (Texts tag) (iptc_answer tag unread bytes)

-- what a region holds, without its locations, and why it may still hold one
abbrev pub what_answer : ℕ → Unread → What → List ℕ → List ℕ × Option Reason
what_answer tag unread what.Xmp bytes = xmp_judged tag unread bytes
what_answer tag unread what.Iptc bytes = iptc_judged tag unread bytes
what_answer tag unread what.GeoTiff bytes = (replicate (length bytes) 0, None)
what_answer tag unread what.Other bytes = (bytes, None)
what_answer tag unread (what.Residual why) bytes = (bytes, Some why)

-- a region lies in data of a length
abbrev pub LiesIn : ℕ → Region → Type 0
LiesIn total region = region.offset + region.len ≤ total

-- the bytes of a region
abbrev pub content_of : Region → List ℕ → List ℕ
content_of region bytes = take region.len (drop region.offset bytes)

-- data with other bytes in a region
abbrev pub with_content : Region → List ℕ → List ℕ → List ℕ
with_content region new bytes =
    take region.offset bytes ++ (new ++ drop (region.offset + region.len) bytes)

-- reasons, and one more if there is one
abbrev pub noted : List Reason → Option Reason → List Reason
noted whys None = whys
noted whys (Some why) = whys ++ why ∷ []

-- data with a region changed, and the reason why it may still hold a location
abbrev pub region_made : Region → List ℕ × Option Reason → List ℕ × List Reason → List ℕ × List Reason
region_made region (new, why) (bytes, whys) = (with_content region new bytes, noted whys why)

-- data without the locations of a region, and why there may still be one
abbrev pub region_erased : Unread → Region → List ℕ × List Reason → List ℕ × List Reason
region_erased unread region (bytes, whys) =
    region_made region (what_answer region.tag unread region.what (content_of region bytes))
    (bytes, whys)

-- the same with regions one after the other
abbrev pub regions_erased : Unread → List Region → List ℕ × List Reason → List ℕ × List Reason
regions_erased unread [] made = made
regions_erased unread (region ∷ regions) made =
    regions_erased unread regions (region_erased unread region made)
