-- How many bytes the segments of a JPEG stream have (ITU-T T.81, B.2; T.87, C.2).
use Rattle.std.specs.Prelude.{ℕ, ◌+◌, ◌-◌, ◌*◌, ◌%◌, List, length, take, drop, slice_index, nat_lt, nat_le, Bool, true, false, ◌&&◌, ◌||◌, ◌==◌, if◌then◌else◌}
use Rattle.exif_inventory.specs.JpegPieces.{fill_len, stream_piece}
use Rattle.exif_lengths.specs.Tables.{huffman_fits, quantization_fits}
use Rattle.exif_lengths.specs.declared.step.Step.{Step}

-- ---- segments

-- a frame header: precision, height, width, the number of components, and three bytes for each
-- (B.2.2, B.3.2; T.87, C.2.2)
abbrev pub frame_fits : List ℕ → Bool
frame_fits content =
    nat_le 6 (length content) && (length content == 6 + 3 * slice_index content 5)

-- a scan header: the number of components, two bytes for each, and three bytes (B.2.3)
abbrev pub scan_fits : List ℕ → Bool
scan_fits content =
    nat_le 4 (length content) && (length content == 4 + 2 * slice_index content 0)

-- a mapping table of JPEG-LS, or more of one: an identifier, the table's number, the width of an
-- entry, and entries (T.87, C.2.4.1.2, C.2.4.1.3)
abbrev pub mapping_fits : List ℕ → Bool
mapping_fits content =
    nat_le 3 (length content) && nat_lt 0 (slice_index content 2)
    && ((length content - 3) % slice_index content 2 == 0)

-- the size of an oversize image: an identifier, the width of a number, and two numbers of two to
-- four bytes (T.87, C.2.4.1.4)
abbrev pub oversize_fits : List ℕ → Bool
oversize_fits content =
    nat_le 2 (length content) && nat_le 2 (slice_index content 1)
    && nat_le (slice_index content 1) 4 && (length content == 2 + 2 * slice_index content 1)

-- parameters of JPEG-LS, by their identifier: 1 is five numbers of two bytes (T.87, C.2.4.1)
abbrev pub parameters_fit : List ℕ → Bool
parameters_fit content =
    if length content == 0 then false else
    if slice_index content 0 == 1 then length content == 11 else
    if slice_index content 0 == 2 || slice_index content 0 == 3 then mapping_fits content else
    if slice_index content 0 == 4 then oversize_fits content else false

-- whether a segment begins a frame, or a hierarchical sequence of frames (DHP): c0 to cf but tables
-- of Huffman codes (c4), extensions (c8) and conditionings (cc); the frame of JPEG-LS (f7)
abbrev pub is_frame : ℕ → Bool
is_frame code =
    (nat_le 192 code && nat_le code 195) || (nat_le 197 code && nat_le code 199)
    || (nat_le 201 code && nat_le code 203) || (nat_le 205 code && nat_le code 207)
    || (code == 222) || (code == 247)

-- a segment by its marker: frames, scans (da), quantization tables (db), Huffman tables (c4),
-- arithmetic conditionings of two bytes each (cc), a number of lines (dc), a restart interval (dd),
-- an expansion (df), parameters of JPEG-LS (f8); of any other the length is not known
abbrev pub segment_fits : ℕ → List ℕ → Bool
segment_fits code content =
    if is_frame code then frame_fits content else
    if code == 196 then huffman_fits content else
    if code == 204 then length content % 2 == 0 else
    if code == 218 then scan_fits content else
    if code == 219 then quantization_fits content else
    if code == 220 || code == 221 then length content == 2 else
    if code == 223 then length content == 1 else
    if code == 248 then parameters_fit content else false

-- ---- a stream

-- bytes outside of segments: those of a scan (B.1.1.5)
abbrev pub free_step : Bool → ℕ → Step
free_step scanning len = record { len = len; fits = scanning; scanning = scanning }

-- a marker without a length: the first and the last one of an image are not within a scan, and all
-- others are (B.1.1.3, B.1.1.5)
abbrev pub marker_step : Bool → ℕ → ℕ → Step
marker_step scanning len code = record {
  len = len;
  fits = scanning || (code == 216) || (code == 217);
  scanning = scanning;
}

-- a segment; the bytes of a scan follow its header (B.2.3)
abbrev pub segment_step : ℕ → ℕ → List ℕ → Step
segment_step len code content =
    record { len = len; fits = segment_fits code content; scanning = code == 218 }

-- a piece that begins with n ffs, which fill the space before its marker (B.1.1.2)
abbrev pub marked_step : Bool → ℕ → List ℕ → Step
marked_step scanning n piece =
    if length piece == n + 1 then marker_step scanning (length piece) (slice_index piece n) else
    if nat_lt (length piece) (n + 3)
    then record { len = length piece; fits = false; scanning = false } else
    segment_step (length piece) (slice_index piece n) (drop (n + 3) piece)

-- a piece of a stream
abbrev pub piece_step : Bool → List ℕ → Step
piece_step scanning piece =
    if fill_len piece == 0 then free_step scanning (length piece) else
    marked_step scanning (fill_len piece) piece

-- the piece at the front of bytes
abbrev pub jpeg_step : Bool → List ℕ → Step
jpeg_step scanning bytes = piece_step scanning (take (stream_piece 0 true bytes).len bytes)
