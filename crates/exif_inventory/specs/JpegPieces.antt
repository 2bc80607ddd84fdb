-- The pieces of a JPEG stream, and of what follows it (ITU-T T.81, B.1.1).
use Rattle.std.specs.Prelude.{ℕ, suc, ◌+◌, ◌-◌, ◌*◌, max, List, [], ◌∷◌, length, take, drop, slice_index, nat_lt, Bool, false, ◌&&◌, ◌||◌, ◌==◌, if◌then◌else◌}
use Rattle.std.specs.Io.Iter.{u64_saturate}
use Rattle.exif_inventory.specs.JpegKinds.{front_len, has_no_length, has_resources, segment_kind, unsegmented}
use Rattle.exif_inventory.specs.declared.kind.Kind.{Kind}
use Rattle.exif_inventory.specs.declared.kind.Kind.TheVariants as kind
use Rattle.exif_inventory.specs.declared.piece.Piece.{Piece}
use Rattle.exif_inventory.specs.declared.piece.State.{State}
use Rattle.exif_inventory.specs.declared.piece.State.TheVariants.{Stream, Resources, Between}

-- whether a file begins with the first marker of a JPEG stream
abbrev pub is_jpeg : List ℕ → Bool
is_jpeg (a ∷ b ∷ bytes) = (a == 255) && (b == 216)
is_jpeg bytes = false

-- whether bytes within a file begin as a JPEG stream does: with its first marker, and another one
abbrev pub is_stream : List ℕ → Bool
is_stream (a ∷ b ∷ c ∷ bytes) = (a == 255) && (b == 216) && (c == 255)
is_stream bytes = false

-- how many bytes come before the first ff
abbrev pub free_len : List ℕ → ℕ
free_len [] = 0
free_len (b ∷ bytes) = if b == 255 then 0 else suc (free_len bytes)

-- how many ffs are at the front
abbrev pub fill_len : List ℕ → ℕ
fill_len [] = 0
fill_len (b ∷ bytes) = if b == 255 then suc (fill_len bytes) else 0

-- how many bytes come before the next JPEG stream
abbrev pub gap_len : List ℕ → ℕ
gap_len [] = 0
gap_len (b ∷ bytes) = if is_stream (b ∷ bytes) then 0 else suc (gap_len bytes)

-- all bytes that are left, as one piece
abbrev pub rest_piece : ℕ → List ℕ → Piece
rest_piece picture bytes = record {
  kind = kind.Broken;
  picture = picture;
  len = length bytes;
  front = 0;
  pad = 0;
  next = Between picture;
}

-- what a marker without a length is: the end of an image is its own, and another image does not
-- begin inside of it
abbrev pub marker_kind : Bool → ℕ → Kind
marker_kind scanned code =
    if code == 217 then kind.Picture else
    if code == 216 then kind.Unknown else unsegmented scanned

-- what follows it
abbrev pub after_marker : ℕ → Bool → ℕ → State
after_marker picture scanned code =
    if code == 217 then Between (u64_saturate (picture + 1)) else Stream picture scanned

-- a marker without a length, behind n ffs
abbrev pub marker_piece : ℕ → Bool → ℕ → ℕ → Piece
marker_piece picture scanned n code = record {
  kind = marker_kind scanned code;
  picture = picture;
  len = n + 1;
  front = 0;
  pad = 0;
  next = after_marker picture scanned code;
}

-- the length that a segment's first two bytes give, themselves included
abbrev pub given_len : ℕ → List ℕ → ℕ
given_len at bytes = max 2 (256 * slice_index bytes (at + 1) + slice_index bytes (at + 2))

-- a segment of this kind, whose length is this
abbrev pub whole_segment : ℕ → Bool → ℕ → ℕ → ℕ → Kind → Piece
whole_segment picture scanned at code len k = record {
  kind = k;
  picture = picture;
  len = at + 1 + len;
  front = front_len k at;
  pad = 0;
  next = Stream picture (scanned || (code == 218));
}

-- the front of a segment of this kind, behind which n bytes of resources follow
abbrev pub segment_front : ℕ → Bool → ℕ → Kind → ℕ → Piece
segment_front picture scanned at k n = record {
  kind = k;
  picture = picture;
  len = front_len k at;
  front = front_len k at;
  pad = 0;
  next = Resources picture scanned n;
}

-- a segment of this kind, or its front
abbrev pub kind_segment : ℕ → Bool → ℕ → ℕ → ℕ → Kind → Piece
kind_segment picture scanned at code len k =
    if has_resources k (at + 1 + len - front_len k at)
    then segment_front picture scanned at k (at + 1 + len - front_len k at)
    else whole_segment picture scanned at code len k

-- a segment whose length is this
abbrev pub sized_segment : ℕ → Bool → ℕ → ℕ → List ℕ → ℕ → Piece
sized_segment picture scanned at code bytes len =
    if nat_lt (length bytes - at - 1) len then rest_piece picture bytes else
    kind_segment picture scanned at code len
    (segment_kind code (take (len - 2) (drop (at + 3) bytes)))

-- a segment, whose marker has this code and is at this index
abbrev pub segment_piece : ℕ → Bool → ℕ → ℕ → List ℕ → Piece
segment_piece picture scanned at code bytes =
    if nat_lt (length bytes - at) 3 then rest_piece picture bytes else
    sized_segment picture scanned at code bytes (given_len at bytes)

-- a marker behind n ffs, with its segment if it has one
abbrev pub unit_piece : ℕ → Bool → ℕ → List ℕ → Piece
unit_piece picture scanned n bytes =
    if n == length bytes then rest_piece picture bytes else
    if has_no_length (slice_index bytes n)
    then marker_piece picture scanned n (slice_index bytes n) else
    segment_piece picture scanned n (slice_index bytes n) bytes

-- bytes outside of segments
abbrev pub free_piece : ℕ → Bool → ℕ → Piece
free_piece picture scanned n = record {
  kind = unsegmented scanned;
  picture = picture;
  len = n;
  front = 0;
  pad = 0;
  next = Stream picture scanned;
}

-- the piece at the front of a stream behind its first marker
unfoldable pub stream_piece : ℕ → Bool → List ℕ → Piece
stream_piece picture scanned bytes =
    if nat_lt 0 (free_len bytes) then free_piece picture scanned (free_len bytes) else
    unit_piece picture scanned (fill_len bytes) bytes

-- what comes before the next stream
abbrev pub gap_piece : ℕ → ℕ → Piece
gap_piece picture n = record {
  kind = kind.Trailer;
  picture = picture;
  len = n;
  front = 0;
  pad = 0;
  next = Between picture;
}

-- the first marker of a stream
abbrev pub first_piece : ℕ → Piece
first_piece picture = record {
  kind = kind.Picture;
  picture = picture;
  len = 2;
  front = 0;
  pad = 0;
  next = Stream picture false;
}

-- the first marker of a file, or all that there is of it
abbrev pub start_piece : List ℕ → Piece
start_piece bytes = if nat_lt (length bytes) 2 then rest_piece 0 bytes else first_piece 0

-- the piece at the front of what follows a stream
unfoldable pub between_piece : ℕ → List ℕ → Piece
between_piece picture bytes =
    if nat_lt 0 (gap_len bytes) then gap_piece picture (gap_len bytes) else first_piece picture
