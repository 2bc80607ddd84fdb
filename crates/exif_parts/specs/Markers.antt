-- The marker at the front of a piece of a JPEG stream (ITU-T T.81, B.1.1 and table B.1).
use Rattle.std.specs.Prelude.{ℕ, ◌+◌, List, length, take, drop, slice_index, codes, nat_le, nat_lt, Bool, true, false, not, ◌&&◌, ◌||◌, ◌==◌, Option, None, Some, if◌then◌else◌}
use Rattle.exif_inventory.specs.JpegPieces.{fill_len}
use Rattle.exif_inventory.specs.declared.kind.Kind.{Kind}
use Rattle.exif_inventory.specs.declared.kind.Kind.TheVariants as kind
use Rattle.exif_segments.specs.Jpeg.{stands_alone, two_bytes}

-- the second byte of its marker, if a piece begins with one: ffs and another byte
abbrev pub marker_of : List ℕ → Option ℕ
marker_of piece =
    if (fill_len piece == 0) || (fill_len piece == length piece) then None else
    Some (slice_index piece (fill_len piece))

-- the ffs, and that byte
abbrev pub prefix_of : List ℕ → List ℕ
prefix_of piece = take (fill_len piece + 1) piece

-- what follows them
abbrev pub body_of : List ℕ → List ℕ
body_of piece = drop (fill_len piece + 1) piece

-- why a marker with this body is refused: it is the start of an image, or its length does not count
-- itself
abbrev pub segment_flaw : ℕ → List ℕ → Option (List ℕ)
segment_flaw marker body =
    if marker == 216 then Some (codes "Unexpected SOI") else
    if not (stands_alone marker) && nat_lt (two_bytes body) 2
    then Some (codes "Invalid segment length") else None

-- the same, if there is a marker
abbrev pub marked_flaw : Option ℕ → List ℕ → Option (List ℕ)
marked_flaw None body = None
marked_flaw (Some marker) body = segment_flaw marker body

-- why a piece is refused, if it is
abbrev pub flaw : List ℕ → Option (List ℕ)
flaw piece = marked_flaw (marker_of piece) (body_of piece)

-- whether a piece is cut off
abbrev pub is_broken : Kind → Bool
is_broken kind.Broken = true
is_broken k = false

-- new Exif data go in front of the first marker that is no APP0
abbrev pub is_insertion_point : Option ℕ → Bool
is_insertion_point None = false
is_insertion_point (Some marker) = not (marker == 224)

-- the end of an image
abbrev pub is_end : Option ℕ → Bool
is_end None = false
is_end (Some marker) = marker == 217

-- markers that are kept for later use: 02 to bf, and f9 to fd
abbrev pub is_reserved : Option ℕ → Bool
is_reserved None = false
is_reserved (Some marker) =
    (nat_le 2 marker && nat_le marker 191) || (nat_le 249 marker && nat_le marker 253)
