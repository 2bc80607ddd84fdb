-- The types of boxes that are read (ISO/IEC 14496-12:2015, 4.3, 8.11; ISO/IEC 23008-12:2017).
use Rattle.std.specs.Prelude.{ℕ, Bool, true, false, List, if◌then◌else◌, codes}
use Rattle.std.specs.Str.{bytes_eq}
use Rattle.exif_isobmff.specs.declared.kind.Kind.{Kind}
use Rattle.exif_isobmff.specs.declared.kind.Kind.TheVariants.{FileType, Meta, ItemData, ItemInfo, ItemInfoEntry, ItemLocation, Other}

-- the type that four characters name
abbrev pub kind_of : List ℕ → Kind
kind_of name =
    if bytes_eq name (codes "ftyp") then FileType else
    (if bytes_eq name (codes "meta") then Meta else
    (if bytes_eq name (codes "idat") then ItemData else
    (if bytes_eq name (codes "iinf") then ItemInfo else
    (if bytes_eq name (codes "infe") then ItemInfoEntry else
    (if bytes_eq name (codes "iloc") then ItemLocation else Other)))))

-- two types are the same
abbrev pub same_kind : Kind → Kind → Bool
same_kind FileType FileType = true
same_kind Meta Meta = true
same_kind ItemData ItemData = true
same_kind ItemInfo ItemInfo = true
same_kind ItemInfoEntry ItemInfoEntry = true
same_kind ItemLocation ItemLocation = true
same_kind Other Other = true
same_kind a b = false
