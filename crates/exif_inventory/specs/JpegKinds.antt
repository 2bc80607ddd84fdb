-- What the markers and segments of a JPEG stream are (ITU-T T.81, table B.1; T.84; T.87; JFIF 1.02;
-- Exif 2.32, 4.7.2; ICC.1:2022, B.4; XMP part 3, 1.1.3; CIPA DC-007, 5; ISO/IEC 19566-5, annex D; C2PA 2.1,
-- A.3.1).
use Rattle.std.specs.Prelude.{ℕ, ◌+◌, List, length, take, codes, nat_le, nat_lt, Bool, false, ◌&&◌, ◌||◌, ◌==◌, if◌then◌else◌}
use Rattle.std.specs.Str.{bytes_eq}
use Rattle.exif_inventory.specs.declared.kind.Kind.{Kind}
use Rattle.exif_inventory.specs.declared.kind.Kind.TheVariants as kind

-- markers without a length: 00, 01, d0 to d9
abbrev pub has_no_length : ℕ → Bool
has_no_length code = nat_le code 1 || (nat_le 208 code && nat_le code 217)

-- whether a content begins with an identifier
abbrev pub begins : List ℕ → List ℕ → Bool
begins id content = bytes_eq (take (length id) content) id

-- what bytes outside of segments are: the data of a scan, once one began
abbrev pub unsegmented : Bool → Kind
unsegmented scanned = if scanned then kind.Picture else kind.Unknown

-- the kind that an identifier names, if a content begins with it
abbrev pub named : List ℕ → Kind → List ℕ → Kind
named id k content = if begins id content then k else kind.Unknown

-- what an APP0 segment is
abbrev pub app0_kind : List ℕ → Kind
app0_kind content =
    if begins (codes "JFIF\0") content then kind.Jfif
    else named (codes "JFXX\0") kind.JfifThumbnail content

-- what an APP1 segment with XMP is
abbrev pub xmp_kind : List ℕ → Kind
xmp_kind content =
    if begins (codes "http://ns.adobe.com/xap/1.0/\0") content then kind.Xmp
    else named (codes "http://ns.adobe.com/xmp/extension/\0") kind.ExtendedXmp content

-- what an APP1 segment is
abbrev pub app1_kind : List ℕ → Kind
app1_kind content =
    if begins (codes "Exif\0\0") content then kind.Exif else xmp_kind content

-- what an APP2 segment is
abbrev pub app2_kind : List ℕ → Kind
app2_kind content =
    if begins (codes "ICC_PROFILE\0") content then kind.IccProfile
    else named (codes "MPF\0") kind.MultiPicture content

-- what the segment of an application is, by its marker and its identifier
abbrev pub app_kind : ℕ → List ℕ → Kind
app_kind code content =
    if code == 224 then app0_kind content else
    if code == 225 then app1_kind content else
    if code == 226 then app2_kind content else
    if code == 235 then named (codes "JP") kind.ContentCredentials content else
    if code == 237 then named (codes "Photoshop 3.0\0") kind.Photoshop content else
    if code == 238 then named (codes "Adobe") kind.Adobe content else kind.Unknown

-- what a segment is: c0 to df make up the picture, and so do f0 to f6 (extensions, T.84), f7 and f8
-- (JPEG-LS, T.87); e0 to ef are the applications', fe is a comment; 02 to bf and f9 to fd are
-- reserved, and what they hold is not known
abbrev pub segment_kind : ℕ → List ℕ → Kind
segment_kind code content =
    if (nat_le 192 code && nat_le code 223) || (nat_le 240 code && nat_le code 248)
    then kind.Picture else
    if nat_le 224 code && nat_le code 239 then app_kind code content else
    if code == 254 then kind.Comment else kind.Unknown

-- how long the identifier of a kind is
abbrev pub id_len : Kind → ℕ
id_len kind.Exif = 6
id_len kind.Xmp = 29
id_len kind.ExtendedXmp = 35
id_len kind.Photoshop = 14
id_len kind.IccProfile = 12
id_len kind.MultiPicture = 4
id_len _ = 0

-- how many bytes of a segment come before its data, where its marker is at n: none, where it is not
-- known or the picture's own
abbrev pub front_len : Kind → ℕ → ℕ
front_len kind.Picture n = 0
front_len kind.Unknown n = 0
front_len kind.Trailer n = 0
front_len kind.Broken n = 0
front_len k n = n + 3 + id_len k

-- whether a segment of this kind has resources, which take n bytes
abbrev pub has_resources : Kind → ℕ → Bool
has_resources kind.Photoshop n = nat_lt 0 n
has_resources _ n = false
