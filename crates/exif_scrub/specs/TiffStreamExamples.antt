-- Worked examples: what of JPEG streams in TIFF files stays, by bytes written by hand.
use Rattle.std.specs.Prelude.{◌≡◌, refl, [], ◌∷◌, ◌++◌, codes, false, List, ℕ, Ok, Err}
use Rattle.exif_blanks.specs.Steps.{bared_from}
use Rattle.exif_inventory.specs.JpegPieces.{stream_piece}
use Rattle.exif_scrub.specs.Directories.{chain_walked}
use Rattle.exif_scrub.specs.TiffScrubbing.{scrubbed}
use Rattle.exif_scrub.specs.declared.tiff.fault.Fault.TheVariants.{SharedBytes}

-- an entry with one value: its tag, its type, the value
abbrev entry : ℕ → ℕ → ℕ → List ℕ
entry high low value = high ∷ low ∷ 0 ∷ 4 ∷ 0 ∷ 0 ∷ 0 ∷ 1 ∷ 0 ∷ 0 ∷ 0 ∷ value ∷ []

-- a thumbnail of the old JPEG compression, whose stream has a comment
abbrev thumbnail : List ℕ → List ℕ
thumbnail text =
    codes "MM\0*" ++ 0 ∷ 0 ∷ 0 ∷ 8 ∷ 0 ∷ 2 ∷ entry 2 1 38 ++ entry 2 2 10 ++ 0 ∷ 0 ∷ 0 ∷ 0
    ∷ 0xff ∷ 0xd8 ∷ 0xff ∷ 0xfe ∷ 0 ∷ 4 ∷ text ++ 0xff ∷ 0xd9 ∷ []

scrubbed_thumbnail : scrubbed false (thumbnail (codes "hi")) ≡ Ok (thumbnail (0 ∷ 0 ∷ []))
unfolding chain_walked bared_from stream_piece
scrubbed_thumbnail = refl

-- a strip with this compression
abbrev strip : ℕ → List ℕ → List ℕ
strip compression text =
    codes "MM\0*" ++ 0 ∷ 0 ∷ 0 ∷ 8 ∷ 0 ∷ 3 ∷ entry 1 3 compression ++ entry 1 17 50
    ++ entry 1 23 10 ++ 0 ∷ 0 ∷ 0 ∷ 0 ∷ 0xff ∷ 0xd8 ∷ 0xff ∷ 0xfe ∷ 0 ∷ 4 ∷ text ++ 0xff ∷ 0xd9 ∷ []

-- of one that is a JPEG stream the comment goes
scrubbed_strip : scrubbed false (strip 7 (codes "hi")) ≡ Ok (strip 7 (0 ∷ 0 ∷ []))
unfolding chain_walked bared_from stream_piece
scrubbed_strip = refl

-- one that is not compressed stays, whatever its bytes are
scrubbed_pixels : scrubbed false (strip 1 (codes "hi")) ≡ Ok (strip 1 (codes "hi"))
unfolding chain_walked
scrubbed_pixels = refl

-- the tables that streams share
abbrev tables : List ℕ → List ℕ
tables text =
    codes "MM\0*" ++ 0 ∷ 0 ∷ 0 ∷ 8 ∷ 0 ∷ 1 ∷ 1 ∷ 91 ∷ 0 ∷ 7 ∷ 0 ∷ 0 ∷ 0 ∷ 10 ∷ 0 ∷ 0 ∷ 0 ∷ 26
    ∷ 0 ∷ 0 ∷ 0 ∷ 0 ∷ 0xff ∷ 0xd8 ∷ 0xff ∷ 0xfe ∷ 0 ∷ 4 ∷ text ++ 0xff ∷ 0xd9 ∷ []

scrubbed_tables : scrubbed false (tables (codes "hi")) ≡ Ok (tables (0 ∷ 0 ∷ []))
unfolding chain_walked bared_from stream_piece
scrubbed_tables = refl

-- a stream, and a strip behind its image, in the bytes that are said to be the stream's
abbrev torn : List ℕ
torn =
    codes "MM\0*" ++ 0 ∷ 0 ∷ 0 ∷ 8 ∷ 0 ∷ 4 ∷ entry 1 17 72 ++ entry 1 23 1 ++ entry 2 1 62
    ++ entry 2 2 11 ++ 0 ∷ 0 ∷ 0 ∷ 0 ∷ 0xff ∷ 0xd8 ∷ 0xff ∷ 0xfe ∷ 0 ∷ 4 ∷ codes "hi"
    ++ 0xff ∷ 0xd9 ∷ 7 ∷ []

-- are refused, since the strip would become zero
scrubbed_torn : scrubbed false torn ≡ Err SharedBytes
unfolding chain_walked bared_from stream_piece
scrubbed_torn = refl
