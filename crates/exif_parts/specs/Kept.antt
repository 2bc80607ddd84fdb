-- What stays of a piece of a file (JFIF 1.02; ICC.1:2022, B.4).
use Rattle.std.specs.Prelude.{ℕ, List, [], ◌∷◌, ◌++◌, length, take, drop, nat_lt, Bool, true, false, Option, if◌then◌else◌}
use Rattle.exif_inventory.specs.declared.kind.Kind.{Kind}
use Rattle.exif_inventory.specs.declared.kind.Kind.TheVariants as kind
use Rattle.exif_segments.specs.declared.remove.Remove.{Remove}
use Rattle.exif_segments.specs.declared.remove.Remove.TheVariants.{Exif, Metadata}
use Rattle.exif_parts.specs.Markers.{body_of, is_reserved, marker_of, prefix_of}

-- whether a piece of this kind, which may begin with a marker, stays: without all metadata, what
-- shows the picture, and segments with a reserved marker, which may show it
abbrev pub stays : Remove → Kind → Option ℕ → Bool
stays Exif kind.Exif marker = false
stays Exif k marker = true
stays Metadata kind.Picture marker = true
stays Metadata kind.Jfif marker = true
stays Metadata kind.IccProfile marker = true
stays Metadata kind.Adobe marker = true
stays Metadata kind.Unknown marker = is_reserved marker
stays Metadata k marker = false

-- JFIF's segment with its fields alone, and without a thumbnail
abbrev pub jfif_fields : List ℕ → List ℕ
jfif_fields piece =
    if nat_lt (length (body_of piece)) 16 then piece else
    prefix_of piece ++ (0 ∷ 16 ∷ [] ++ (take 12 (drop 2 (body_of piece)) ++ 0 ∷ 0 ∷ []))

-- Adobe's segment with its fields alone
abbrev pub adobe_fields : List ℕ → List ℕ
adobe_fields piece =
    if nat_lt (length (body_of piece)) 14 then piece else
    prefix_of piece ++ (0 ∷ 14 ∷ [] ++ take 12 (drop 2 (body_of piece)))

-- a piece that stays, without what goes of it
abbrev pub trimmed : Remove → Kind → List ℕ → List ℕ
trimmed Metadata kind.Jfif piece = jfif_fields piece
trimmed Metadata kind.Adobe piece = adobe_fields piece
trimmed remove k piece = piece

-- what stays of a piece
abbrev pub kept : Remove → Kind → List ℕ → List ℕ
kept remove k piece = if stays remove k (marker_of piece) then trimmed remove k piece else []
