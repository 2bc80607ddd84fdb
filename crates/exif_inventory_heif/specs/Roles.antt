-- What a box is, by its name and its content (ISO/IEC 14496-12, 4.2, 8.1, 8.11; C2PA Technical
-- Specification, "Embedding manifests into BMFF-based assets"; XMP Specification, Part 3).
use Rattle.std.specs.Prelude.{ℕ, List, [], ◌∷◌, length, take, codes, nat_le, Bool, true, false, ◌&&◌, ◌||◌, ◌==◌, Option, Some, None, unwrap_or, if◌then◌else◌}
use Rattle.std.specs.Str.{bytes_eq}
use Rattle.exif_inventory.specs.declared.kind.Kind.{Kind}
use Rattle.exif_inventory.specs.declared.kind.Kind.TheVariants as kind
use Rattle.exif_inventory_heif.specs.declared.role.Role.{Role}
use Rattle.exif_inventory_heif.specs.declared.role.Role.TheVariants.{Known, Meta, ItemInfo, ItemLocation, ItemData, MediaData, Movie}

-- whether a role is the wanted one: that of a list, of the items' data in `meta`, or of a film
abbrev pub same_role : Role → Role → Bool
same_role ItemInfo ItemInfo = true
same_role ItemLocation ItemLocation = true
same_role ItemData ItemData = true
same_role Movie Movie = true
same_role wanted role = false

-- whether all bytes are zero
abbrev pub is_zeros : List ℕ → Bool
is_zeros [] = true
is_zeros (b ∷ bytes) = (b == 0) && is_zeros bytes

-- what a box of free space is: nothing but zeros, or whatever was left there
abbrev pub free_kind : List ℕ → Kind
free_kind content = if is_zeros content then kind.Picture else kind.Unknown

-- the names of boxes with content credentials, and with an XMP packet
abbrev pub credentials_name : List ℕ
credentials_name =
    0xd8 ∷ 0xfe ∷ 0xc3 ∷ 0xd6 ∷ 0x1b ∷ 0x0e ∷ 0x48 ∷ 0x3c
    ∷ 0x92 ∷ 0x97 ∷ 0x58 ∷ 0x28 ∷ 0x87 ∷ 0x7e ∷ 0xc4 ∷ 0x81 ∷ []

abbrev pub xmp_name : List ℕ
xmp_name =
    0xbe ∷ 0x7a ∷ 0xcf ∷ 0xcb ∷ 0x97 ∷ 0xa9 ∷ 0x42 ∷ 0xe8
    ∷ 0x9c ∷ 0x71 ∷ 0x99 ∷ 0x94 ∷ 0x91 ∷ 0xe3 ∷ 0xaf ∷ 0xac ∷ []

-- whether a content begins with a name
abbrev pub begins : List ℕ → List ℕ → Bool
begins name content =
    nat_le (length name) (length content) && bytes_eq (take (length name) content) name

-- what a box of a type of its own is, by the 16 bytes that name it
abbrev pub uuid_kind : List ℕ → Kind
uuid_kind content =
    if begins credentials_name content then kind.ContentCredentials else
    if begins xmp_name content then kind.Xmp else kind.Unknown

-- what a box is that may be anywhere
abbrev pub common_role : List ℕ → List ℕ → Role
common_role name content =
    if bytes_eq name (codes "free") || bytes_eq name (codes "skip")
    then Known (free_kind content) else
    if bytes_eq name (codes "uuid") then Known (uuid_kind content) else
    if bytes_eq name (codes "jumb") then Known kind.ContentCredentials else Known kind.Unknown

-- what a box of a file is, where a child of `meta` of its name is something else
abbrev pub top_name : List ℕ → Option Role
top_name name =
    if bytes_eq name (codes "ftyp") || bytes_eq name (codes "styp")
    then Some (Known kind.Picture) else
    if bytes_eq name (codes "mdat") || bytes_eq name (codes "imda") then Some MediaData else
    if bytes_eq name (codes "moov") || bytes_eq name (codes "moof") then Some Movie else None

-- whether a child of `meta` describes the picture
abbrev pub describes : List ℕ → Bool
describes name =
    bytes_eq name (codes "hdlr") || bytes_eq name (codes "pitm") || bytes_eq name (codes "iref")
    || bytes_eq name (codes "iprp") || bytes_eq name (codes "ipro")
    || bytes_eq name (codes "grpl") || bytes_eq name (codes "dinf")

-- what a child of `meta` is, where a box of the file of its name is something else
abbrev pub child_name : List ℕ → Option Role
child_name name =
    if describes name then Some Meta else
    if bytes_eq name (codes "iinf") then Some ItemInfo else
    if bytes_eq name (codes "iloc") then Some ItemLocation else
    if bytes_eq name (codes "idat") then Some ItemData else None

-- what a box of a file is
abbrev pub top_role : List ℕ → List ℕ → Role
top_role name content = unwrap_or (top_name name) (common_role name content)

-- what a child of `meta` is
abbrev pub child_role : List ℕ → List ℕ → Role
child_role name content = unwrap_or (child_name name) (common_role name content)
