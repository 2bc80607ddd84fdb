-- A JPEG file with another XMP packet or colour profile, and the segments that hold them (ITU-T T.81,
-- B.1.1.4; XMP part 3, 1.1.3; ICC.1:2022, B.4).
use Rattle.std.specs.Prelude.{ℕ, zero, suc, ◌+◌, ◌/◌, ◌%◌, ◌==◌, List, [], ◌∷◌, ◌++◌, length, take, drop, codes, nat_lt, Bool, false, Result, Ok, Err, if◌then◌else◌}
use Rattle.std.specs.Int.{to_be_bytes, w16}
use Rattle.exif_types.specs.Refusals.{Refusal, ◌>>=◌}
use Rattle.exif_inventory.specs.JpegPieces.{is_jpeg}
use Rattle.exif_inventory.specs.declared.piece.State.TheVariants.{Stream}
use Rattle.exif_segments.specs.Jpeg.{broken_jpeg, not_jpeg}
use Rattle.exif_blocks.specs.Blocks.{blocks_put, exif_in}
use Rattle.exif_blocks.specs.PutRefusals.{packet_too_large, profile_too_large}
use Rattle.exif_blocks.specs.PutViews.{Packet}
use Rattle.exif_blocks.specs.declared.blocks.Block.{Block}
use Rattle.exif_blocks.specs.declared.step.Place.{Place}
use Rattle.exif_blocks.specs.declared.step.Place.TheVariants.{BehindExif, BeforeMarker}

-- a segment: its marker, its length, which counts itself, an identifier and bytes
abbrev pub segment : ℕ → List ℕ → List ℕ → List ℕ
segment marker id bytes =
    (255 ∷ marker ∷ []) ++ (to_be_bytes w16 (length id + length bytes + 2) ++ (id ++ bytes))

-- that of a packet, and those that go on with it
abbrev pub xmp_segments : Packet → Result (List ℕ) Refusal
xmp_segments xmp =
    if nat_lt 65502 (length xmp.packet) then Err packet_too_large else
    Ok (segment 0xe1 (codes "http://ns.adobe.com/xap/1.0/\0") xmp.packet ++ xmp.extension)

-- in how many segments a profile of this length is
abbrev pub count_for : ℕ → ℕ
count_for len = len / 65519 + (if len % 65519 == 0 then 0 else 1)

-- one of them: its number, how many there are, and its bytes
abbrev pub piece : ℕ → ℕ → List ℕ → List ℕ
piece number count bytes =
    segment 0xe2 (codes "ICC_PROFILE\0" ++ number ∷ count ∷ []) bytes

-- these bytes, and then n of them, from this number on
abbrev pub pieces : ℕ → ℕ → ℕ → List ℕ → List ℕ → List ℕ
pieces zero number count bytes made = made
pieces (suc n) number count bytes made =
    pieces n (number + 1) count (drop 65519 bytes) (made ++ piece number count (take 65519 bytes))

-- those of a profile
abbrev pub profile_segments : List ℕ → Result (List ℕ) Refusal
profile_segments profile =
    let count = count_for (length profile) in
    if nat_lt 255 count then Err profile_too_large else Ok (pieces count 1 count profile [])

-- the stream of a file behind its first marker
abbrev pub stream_in : List ℕ → Result (List ℕ) Refusal
stream_in file =
    if nat_lt (length file) 2 then Err broken_jpeg else
    if is_jpeg file then Ok (drop 2 file) else Err not_jpeg

-- where new segments go: behind Exif data, or where new Exif data go if there are none
abbrev pub jpeg_place : Bool → Place
jpeg_place exif = if exif then BehindExif else BeforeMarker

-- a JPEG file with these segments in place of its own
abbrev pub jpeg_with : Block → List ℕ → List ℕ → Result (List ℕ) Refusal
jpeg_with block segments file =
    stream_in file >>= λ stream.
    Ok (blocks_put (length stream) block (jpeg_place (exif_in file)) (Stream 0 false) segments
    stream (255 ∷ 216 ∷ []))
