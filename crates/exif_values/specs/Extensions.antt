-- The property that says that a packet is longer than a segment of a JPEG file (XMP part 3,
-- 1.1.3.1).
use Rattle.std.specs.Prelude.{ℕ, ◌&&◌, Bool, true, false, List, [], ◌∷◌, codes, Option, None, Some, if◌then◌else◌}
use Rattle.std.specs.Str.{bytes_eq}
use Rattle.exif_xmp.specs.Properties.{PropertyView}

-- whether a property is HasExtendedXMP
abbrev pub names_extension : PropertyView → Bool
names_extension p =
    bytes_eq p.path (codes "xmpNote:HasExtendedXMP")
    && bytes_eq p.namespace (codes "http://ns.adobe.com/xmp/note/")

-- its text, where it is there: the identifier of the portions of the rest of the packet
abbrev pub extension_id : List PropertyView → Option (List ℕ)
extension_id [] = None
extension_id (p ∷ ps) = if names_extension p then Some p.text else extension_id ps

-- whether there is one
abbrev pub names_one : List PropertyView → Bool
names_one [] = false
names_one (p ∷ ps) = if names_extension p then true else names_one ps
