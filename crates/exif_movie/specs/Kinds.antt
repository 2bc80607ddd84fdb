-- What a box is, by the box that it is in, its type and its content (ISO/IEC 14496-12:2015, clause 8;
-- QuickTime File Format, "Movie Atoms", "User Data Atoms", "Metadata Atoms"; 3GPP TS 26.244, clause 8;
-- XMP Specification, Part 3).
use Rattle.std.specs.Prelude.{ℕ, List, [], ◌∷◌, length, take, drop, slice_index, codes, nat_le, nat_lt, Bool, true, false, ◌&&◌, ◌||◌, ◌==◌, Option, Some, None, if◌then◌else◌}
use Rattle.std.specs.Str.{bytes_eq}
use Rattle.exif_movie.specs.Bytes.{begins, is_zeros}
use Rattle.exif_movie.specs.declared.kind.Kind.{Kind}
use Rattle.exif_movie.specs.declared.kind.Kind.TheVariants as kind
use Rattle.exif_movie.specs.declared.kind.Container.{Container}
use Rattle.exif_movie.specs.declared.kind.Container.TheVariants as container
use Rattle.exif_movie.specs.declared.kind.Subject.{Subject}
use Rattle.exif_movie.specs.declared.kind.Subject.TheVariants as subject

-- the extended type of boxes with an XMP packet (XMP Specification, Part 3, 1.1.4)
abbrev pub xmp_uuid : List ℕ
xmp_uuid =
    0xbe ∷ 0x7a ∷ 0xcf ∷ 0xcb ∷ 0x97 ∷ 0xa9 ∷ 0x42 ∷ 0xe8
    ∷ 0x9c ∷ 0x71 ∷ 0x99 ∷ 0x94 ∷ 0x91 ∷ 0xe3 ∷ 0xaf ∷ 0xac ∷ []

-- a box of free space: all zeros, what a camera recorded, or other bytes
abbrev pub free_kind : List ℕ → Kind
free_kind content =
    if is_zeros content then kind.Free else
    if begins (codes "GPS ") content then kind.Telemetry else kind.FilledFree

-- a box with an extended type, which its content begins with
abbrev pub uuid_kind : List ℕ → Option Kind
uuid_kind content = if begins xmp_uuid content then Some kind.Xmp else None

-- a box of a type that may be anywhere
abbrev pub common_kind : List ℕ → List ℕ → Option Kind
common_kind name content =
    if bytes_eq name (codes "free") || bytes_eq name (codes "skip")
    || bytes_eq name (codes "wide") then Some (free_kind content) else
    if bytes_eq name (codes "uuid") then uuid_kind content else
    if bytes_eq name (codes "XMP_") then Some kind.Xmp else
    if bytes_eq name (codes "xml ") || bytes_eq name (codes "bxml") then Some kind.Xml else
    if bytes_eq name (codes "gps ") || bytes_eq name (codes "GPMF") then Some kind.Telemetry else
    None

-- a box of the file
abbrev pub top_kind : List ℕ → Kind
top_kind name =
    if bytes_eq name (codes "ftyp") || bytes_eq name (codes "styp")
    || bytes_eq name (codes "pdin") || bytes_eq name (codes "sidx")
    || bytes_eq name (codes "ssix") || bytes_eq name (codes "mfra")
    || bytes_eq name (codes "prft") then kind.Structure else
    if bytes_eq name (codes "mdat") || bytes_eq name (codes "imda") then kind.MediaData else
    kind.Unknown

-- a box of the movie box
abbrev pub movie_kind : List ℕ → Kind
movie_kind name =
    if bytes_eq name (codes "mvhd") then kind.MovieHeader else
    if bytes_eq name (codes "iods") || bytes_eq name (codes "mvex")
    || bytes_eq name (codes "ctab") || bytes_eq name (codes "clip") then kind.Structure else
    if bytes_eq name (codes "cmov") || bytes_eq name (codes "rmra") then kind.UnknownInner else
    kind.Unknown

-- a box of a track
abbrev pub track_kind : List ℕ → Kind
track_kind name =
    if bytes_eq name (codes "tkhd") then kind.TrackHeader else
    if bytes_eq name (codes "edts") || bytes_eq name (codes "tref")
    || bytes_eq name (codes "tapt") || bytes_eq name (codes "clip")
    || bytes_eq name (codes "matt") || bytes_eq name (codes "load")
    || bytes_eq name (codes "txas") || bytes_eq name (codes "trgr") then kind.Structure else
    kind.Unknown

-- a handler box, by the handler type (8.4.3)
abbrev pub handler_named : List ℕ → Kind
handler_named name =
    if bytes_eq name (codes "vide") || bytes_eq name (codes "soun")
    || bytes_eq name (codes "auxv") || bytes_eq name (codes "pict")
    || bytes_eq name (codes "tmcd") || bytes_eq name (codes "hint")
    || bytes_eq name (codes "clcp")
    then kind.Handler else kind.TimedHandler

abbrev pub handler_kind : List ℕ → Kind
handler_kind content =
    if nat_lt (length content) 12 then kind.TimedHandler
    else handler_named (take 4 (drop 8 content))

-- a box of the media of a track
abbrev pub media_kind : List ℕ → List ℕ → Kind
media_kind name content =
    if bytes_eq name (codes "mdhd") then kind.MediaHeader else
    if bytes_eq name (codes "hdlr") then handler_kind content else
    if bytes_eq name (codes "elng") then kind.Structure else
    kind.UnknownInner

-- a box of the media information
abbrev pub information_kind : List ℕ → Kind
information_kind name =
    if bytes_eq name (codes "vmhd") || bytes_eq name (codes "smhd")
    || bytes_eq name (codes "hmhd") || bytes_eq name (codes "nmhd")
    || bytes_eq name (codes "sthd") || bytes_eq name (codes "gmhd")
    || bytes_eq name (codes "hdlr") || bytes_eq name (codes "dinf") then kind.Structure else
    kind.UnknownInner

-- a box of the sample table
abbrev pub table_kind : List ℕ → Kind
table_kind name =
    if bytes_eq name (codes "stsc") then kind.SampleChunks else
    if bytes_eq name (codes "stsz") then kind.SampleSizes else
    if bytes_eq name (codes "stco") then kind.ChunkOffsets else
    if bytes_eq name (codes "co64") then kind.LongChunkOffsets else
    if bytes_eq name (codes "stsd") || bytes_eq name (codes "stts")
    || bytes_eq name (codes "ctts") || bytes_eq name (codes "cslg")
    || bytes_eq name (codes "stss") || bytes_eq name (codes "stsh")
    || bytes_eq name (codes "sdtp") || bytes_eq name (codes "sbgp")
    || bytes_eq name (codes "sgpd") || bytes_eq name (codes "subs")
    || bytes_eq name (codes "saiz") || bytes_eq name (codes "saio")
    || bytes_eq name (codes "padb") || bytes_eq name (codes "stdp")
    || bytes_eq name (codes "stps") || bytes_eq name (codes "stz2") then kind.Structure else
    kind.UnknownInner

-- what a box of user data is about, by its type
abbrev pub user_subject : List ℕ → Subject
user_subject name =
    if bytes_eq name (0xa9 ∷ codes "xyz") || bytes_eq name (codes "loci") then subject.Location else
    if bytes_eq name (0xa9 ∷ codes "day") || bytes_eq name (codes "date") then subject.Date else
    if bytes_eq name (0xa9 ∷ codes "mak") then subject.Make else
    if bytes_eq name (0xa9 ∷ codes "mod") then subject.Model else
    if bytes_eq name (0xa9 ∷ codes "swr") || bytes_eq name (0xa9 ∷ codes "too")
    then subject.Software else
    subject.Other

-- whether a type begins with the byte a9, the sign ©, as those of QuickTime's texts do
abbrev pub is_quicktime_text : List ℕ → Bool
is_quicktime_text name = nat_le 1 (length name) && (slice_index name 0 == 0xa9)

-- whether a type is one of the asset information (3GPP TS 26.244, clause 8)
abbrev pub is_asset_text : List ℕ → Bool
is_asset_text name =
    if bytes_eq name (codes "loci") || bytes_eq name (codes "date")
    || bytes_eq name (codes "titl") || bytes_eq name (codes "auth")
    || bytes_eq name (codes "cprt") || bytes_eq name (codes "dscp")
    || bytes_eq name (codes "perf") || bytes_eq name (codes "gnre")
    || bytes_eq name (codes "albm") || bytes_eq name (codes "yrrc")
    || bytes_eq name (codes "rtng") || bytes_eq name (codes "clsf")
    || bytes_eq name (codes "kywd")
    then true else false

-- whether a type is one for display, for hints or for selection
abbrev pub is_display_box : List ℕ → Bool
is_display_box name =
    if bytes_eq name (codes "name") || bytes_eq name (codes "hnti")
    || bytes_eq name (codes "hinf") || bytes_eq name (codes "tsel")
    || bytes_eq name (codes "kind") || bytes_eq name (codes "chpl")
    || bytes_eq name (codes "WLOC") || bytes_eq name (codes "LOOP")
    || bytes_eq name (codes "SelO") || bytes_eq name (codes "AllF")
    then true else false

-- whether a type of user data is known
abbrev pub is_known_user_data : List ℕ → Bool
is_known_user_data name = is_asset_text name || is_display_box name || is_quicktime_text name

-- a box of user data; unknown types are those of camera makers
abbrev pub user_kind : List ℕ → Kind
user_kind name =
    if is_known_user_data name then kind.UserData (user_subject name) else kind.Telemetry

-- a box of metadata
abbrev pub meta_kind : List ℕ → Kind
meta_kind name =
    if bytes_eq name (codes "hdlr") then kind.Structure else
    if bytes_eq name (codes "keys") then kind.Keys else
    kind.Unknown

-- a box of a fragment
abbrev pub fragment_kind : List ℕ → Kind
fragment_kind name =
    if bytes_eq name (codes "mfhd") || bytes_eq name (codes "tfhd")
    || bytes_eq name (codes "trun") || bytes_eq name (codes "tfdt")
    || bytes_eq name (codes "sdtp") || bytes_eq name (codes "sbgp")
    || bytes_eq name (codes "sgpd") || bytes_eq name (codes "subs")
    || bytes_eq name (codes "saiz") || bytes_eq name (codes "saio")
    || bytes_eq name (codes "senc") then kind.Structure else
    kind.UnknownInner

-- a box that contains no others, by the box that it is in
abbrev pub container_kind : Container → List ℕ → List ℕ → Kind
container_kind container.File name content = top_kind name
container_kind container.Movie name content = movie_kind name
container_kind container.Track name content = track_kind name
container_kind container.Media name content = media_kind name content
container_kind container.MediaInformation name content = information_kind name
container_kind container.SampleTable name content = table_kind name
container_kind container.UserData name content = user_kind name
container_kind container.Meta name content = meta_kind name
container_kind container.ItemList name content = kind.Item subject.Other
container_kind container.Fragment name content = fragment_kind name

abbrev pub kind_or : Option Kind → Kind → Kind
kind_or (Some k) other = k
kind_or None other = other

-- what a box is that contains no others
abbrev pub leaf_kind : Container → List ℕ → List ℕ → Kind
leaf_kind within name content =
    kind_or (common_kind name content) (container_kind within name content)

-- a box of user data or metadata
abbrev pub common_container : List ℕ → Option Container
common_container name =
    if bytes_eq name (codes "udta") then Some container.UserData else
    if bytes_eq name (codes "meta") then Some container.Meta else None

-- whether boxes of user data or metadata are looked for in such a box
abbrev pub may_hold_metadata : Container → Bool
may_hold_metadata container.SampleTable = false
may_hold_metadata container.Meta = false
may_hold_metadata container.ItemList = false
may_hold_metadata _ = true

-- a box, if its type is the wanted one
abbrev pub named : List ℕ → List ℕ → Container → Option Container
named wanted name inner = if bytes_eq name wanted then Some inner else None

-- a box that contains others, if it is in the one that it belongs in
abbrev pub own_container : Container → List ℕ → Option Container
own_container container.File name =
    if bytes_eq name (codes "moov") then Some container.Movie else
    if bytes_eq name (codes "moof") then Some container.Fragment else None
own_container container.Movie name = named (codes "trak") name container.Track
own_container container.Track name = named (codes "mdia") name container.Media
own_container container.Media name = named (codes "minf") name container.MediaInformation
own_container container.MediaInformation name = named (codes "stbl") name container.SampleTable
own_container container.Meta name = named (codes "ilst") name container.ItemList
own_container container.Fragment name = named (codes "traf") name container.Fragment
own_container _ name = None

abbrev pub container_or : Option Container → Option Container → Option Container
container_or (Some inner) other = Some inner
container_or None other = other

-- a box that contains others
abbrev pub child_container : Container → List ℕ → Option Container
child_container within name =
    container_or (own_container within name)
    (if may_hold_metadata within then common_container name else None)

abbrev pub unopened_or : Option Container → Kind → Kind
unopened_or (Some inner) leaf = kind.Unopened inner
unopened_or None leaf = leaf

-- what a box is
abbrev pub kind_at : Container → List ℕ → List ℕ → Kind
kind_at within name content =
    unopened_or (child_container within name) (leaf_kind within name content)
