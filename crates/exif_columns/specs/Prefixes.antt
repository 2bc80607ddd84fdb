-- The usual prefixes of namespaces of XMP (XMP Specification, Parts 1 and 2; the standards of IPTC,
-- PLUS and the Metadata Working Group; programs).
use Rattle.std.specs.Prelude.{ℕ, Bool, true, false, List, [], ◌∷◌, codes, if◌then◌else◌}
use Rattle.std.specs.Str.{bytes_eq}

abbrev pub known_prefixes : List (List ℕ)
known_prefixes =
    codes "dc" ∷ codes "xmp" ∷ codes "xmpRights" ∷ codes "xmpMM" ∷ codes "photoshop"
    ∷ codes "tiff" ∷ codes "exif" ∷ codes "exifEX" ∷ codes "aux" ∷ codes "crs"
    ∷ codes "Iptc4xmpCore" ∷ codes "Iptc4xmpExt" ∷ codes "plus" ∷ codes "cc" ∷ codes "lr"
    ∷ codes "stEvt" ∷ codes "stRef" ∷ codes "stDim" ∷ codes "stArea" ∷ codes "xmpDM"
    ∷ codes "mwg-rs" ∷ codes "mwg-kw" ∷ codes "MP" ∷ codes "MPRI" ∷ codes "MPReg"
    ∷ codes "MicrosoftPhoto" ∷ codes "digiKam" ∷ codes "darktable" ∷ codes "GPano"
    ∷ codes "pdf" ∷ []

-- whether a prefix is one of these
abbrev pub is_among : List ℕ → List (List ℕ) → Bool
is_among prefix [] = false
is_among prefix (known ∷ others) =
    if bytes_eq known prefix then true else is_among prefix others

abbrev pub is_known_prefix : List ℕ → Bool
is_known_prefix prefix = is_among prefix known_prefixes
