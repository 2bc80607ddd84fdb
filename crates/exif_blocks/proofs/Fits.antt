-- Blocks that the chunk of a WebP file holds.
use Rattle.std.proofs.Common.{◌≡◌, ◌≤◌, ℕ, List, length, false, ap, arith}
use Rattle.std.specs.Prelude.{nat_lt, codes, Err, if◌then◌else◌}
use Rattle.std.proofs.lemmas.Bool.Decides.{nat_tests}
use Rattle.exif_blocks.specs.PutRefusals.{packet_too_large, profile_too_large}
use Rattle.exif_blocks.specs.WebpBlocks.{file_put, resized, with_color, with_packet}
use Rattle.exif_parts.specs.WebpChunks.{chunk_bytes}
use Rattle.exif_blocks.specs.declared.blocks.Block.TheVariants.{Xmp, Profile}
use Rattle.exif_blocks.specs.declared.step.Place.TheVariants.{BehindExif, BehindFirst}

-- a packet
pub packet_fits : (space : ℕ) (packet file : List ℕ) → length packet ≤ 4294967295
    → with_packet space packet file
    ≡ resized file 4 (codes "XMP packet too large") (file_put Xmp BehindExif space (chunk_bytes (codes "XMP ") packet) file)
packet_fits space packet file h =
    let small : nat_lt 4294967295 (length packet) ≡ false = grind (arith, nat_tests) in
    ap (λ b. if b then Err packet_too_large
    else resized file 4 (codes "XMP packet too large") (file_put Xmp BehindExif space (chunk_bytes (codes "XMP ") packet) file)) small

-- a profile
pub color_fits : (space : ℕ) (profile file : List ℕ) → length profile ≤ 4294967295
    → with_color space profile file
    ≡ resized file 32 (codes "Colour profile too large") (file_put Profile BehindFirst space (chunk_bytes (codes "ICCP") profile) file)
color_fits space profile file h =
    let small : nat_lt 4294967295 (length profile) ≡ false = grind (arith, nat_tests) in
    ap (λ b. if b then Err profile_too_large
    else resized file 32 (codes "Colour profile too large") (file_put Profile BehindFirst space (chunk_bytes (codes "ICCP") profile) file)) small
