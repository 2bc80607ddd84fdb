-- What people call the kinds of parts.
use Rattle.std.specs.Prelude.{ℕ, List, codes}
use Rattle.exif_inventory.specs.declared.kind.Kind.{Kind}
use Rattle.exif_inventory.specs.declared.kind.Kind.TheVariants as kind

-- what people call a kind
abbrev pub kind_text : Kind → List ℕ
kind_text kind.Picture = codes "picture data"
kind_text kind.Jfif = codes "JFIF header"
kind_text kind.JfifThumbnail = codes "JFIF thumbnail"
kind_text kind.Exif = codes "Exif data"
kind_text kind.Xmp = codes "XMP packet"
kind_text kind.ExtendedXmp = codes "part of a long XMP packet"
kind_text kind.Photoshop = codes "Photoshop resource"
kind_text kind.PhotoshopExif = codes "Photoshop resource with Exif data"
kind_text kind.PhotoshopXmp = codes "Photoshop resource with an XMP packet"
kind_text kind.PhotoshopOther = codes "other Photoshop resource"
kind_text kind.Iptc = codes "IPTC data"
kind_text kind.Comment = codes "comment"
kind_text kind.IccProfile = codes "colour profile"
kind_text kind.Adobe = codes "Adobe segment"
kind_text kind.MultiPicture = codes "index of pictures"
kind_text kind.ContentCredentials = codes "content credentials"
kind_text kind.Trailer = codes "data after the picture"
kind_text kind.Unknown = codes "unknown data"
kind_text kind.Broken = codes "data that are cut off"
