-- The usual prefixes of namespaces (XMP Specification, Parts 1 and 2; the documents of those who
-- made the others).
use Rattle.std.specs.Prelude.{ℕ, Bool, if◌then◌else◌, List, codes}
use Rattle.std.specs.Str.{bytes_eq}

-- the namespace of RDF
abbrev pub is_rdf : List ℕ → Bool
is_rdf uri = bytes_eq uri (codes "http://www.w3.org/1999/02/22-rdf-syntax-ns#")

unfoldable pub edit_prefix : List ℕ → List ℕ → List ℕ
edit_prefix uri own =
    if bytes_eq uri (codes "http://ns.microsoft.com/photo/1.0/") then codes "MicrosoftPhoto" else (
    if bytes_eq uri (codes "http://www.digikam.org/ns/1.0/") then codes "digiKam" else (
    if bytes_eq uri (codes "http://darktable.sf.net/") then codes "darktable" else (
    if bytes_eq uri (codes "http://ns.google.com/photos/1.0/panorama/") then codes "GPano" else (
    if bytes_eq uri (codes "http://ns.adobe.com/pdf/1.3/") then codes "pdf" else (
    own)))))

unfoldable pub people_prefix : List ℕ → List ℕ → List ℕ
people_prefix uri own =
    if bytes_eq uri (codes "http://www.metadataworkinggroup.com/schemas/regions/")
    then codes "mwg-rs" else (
    if bytes_eq uri (codes "http://www.metadataworkinggroup.com/schemas/keywords/")
    then codes "mwg-kw" else (
    if bytes_eq uri (codes "http://ns.microsoft.com/photo/1.2/") then codes "MP" else (
    if bytes_eq uri (codes "http://ns.microsoft.com/photo/1.2/t/RegionInfo#")
    then codes "MPRI" else (
    if bytes_eq uri (codes "http://ns.microsoft.com/photo/1.2/t/Region#") then codes "MPReg" else (
    edit_prefix uri own)))))

unfoldable pub struct_prefix : List ℕ → List ℕ → List ℕ
struct_prefix uri own =
    if bytes_eq uri (codes "http://ns.adobe.com/xap/1.0/sType/ResourceEvent#")
    then codes "stEvt" else (
    if bytes_eq uri (codes "http://ns.adobe.com/xap/1.0/sType/ResourceRef#")
    then codes "stRef" else (
    if bytes_eq uri (codes "http://ns.adobe.com/xap/1.0/sType/Dimensions#")
    then codes "stDim" else (
    if bytes_eq uri (codes "http://ns.adobe.com/xmp/sType/Area#") then codes "stArea" else (
    if bytes_eq uri (codes "http://ns.adobe.com/xmp/1.0/DynamicMedia/") then codes "xmpDM" else (
    people_prefix uri own)))))

unfoldable pub iptc_prefix : List ℕ → List ℕ → List ℕ
iptc_prefix uri own =
    if bytes_eq uri (codes "http://iptc.org/std/Iptc4xmpCore/1.0/xmlns/")
    then codes "Iptc4xmpCore" else (
    if bytes_eq uri (codes "http://iptc.org/std/Iptc4xmpExt/2008-02-29/")
    then codes "Iptc4xmpExt" else (
    if bytes_eq uri (codes "http://ns.useplus.org/ldf/xmp/1.0/") then codes "plus" else (
    if bytes_eq uri (codes "http://creativecommons.org/ns#") then codes "cc" else (
    if bytes_eq uri (codes "http://ns.adobe.com/lightroom/1.0/") then codes "lr" else (
    struct_prefix uri own)))))

unfoldable pub photo_prefix : List ℕ → List ℕ → List ℕ
photo_prefix uri own =
    if bytes_eq uri (codes "http://ns.adobe.com/tiff/1.0/") then codes "tiff" else (
    if bytes_eq uri (codes "http://ns.adobe.com/exif/1.0/") then codes "exif" else (
    if bytes_eq uri (codes "http://cipa.jp/exif/1.0/") then codes "exifEX" else (
    if bytes_eq uri (codes "http://ns.adobe.com/exif/1.0/aux/") then codes "aux" else (
    if bytes_eq uri (codes "http://ns.adobe.com/camera-raw-settings/1.0/") then codes "crs" else (
    iptc_prefix uri own)))))

unfoldable pub core_prefix : List ℕ → List ℕ → List ℕ
core_prefix uri own =
    if bytes_eq uri (codes "http://purl.org/dc/elements/1.1/") then codes "dc" else (
    if bytes_eq uri (codes "http://ns.adobe.com/xap/1.0/") then codes "xmp" else (
    if bytes_eq uri (codes "http://ns.adobe.com/xap/1.0/rights/") then codes "xmpRights" else (
    if bytes_eq uri (codes "http://ns.adobe.com/xap/1.0/mm/") then codes "xmpMM" else (
    if bytes_eq uri (codes "http://ns.adobe.com/photoshop/1.0/") then codes "photoshop" else (
    photo_prefix uri own)))))

-- the usual prefix of a namespace, or another one
abbrev pub usual_prefix : List ℕ → List ℕ → List ℕ
usual_prefix = core_prefix
