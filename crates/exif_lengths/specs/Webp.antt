-- How many bytes the chunks of a WebP file have (RFC 9649, 2.7).
use Rattle.std.specs.Prelude.{ℕ, List, length, take, codes, nat_le, Bool, true, false, ◌&&◌, ◌||◌, ◌==◌, if◌then◌else◌}
use Rattle.std.specs.Str.{bytes_eq}
use Rattle.exif_inventory.specs.WebpPieces.{chunk_piece, is_webp, number_at}
use Rattle.exif_lengths.specs.declared.step.Step.{Step}

-- whether a chunk of this name has data of this size: a list of features has ten bytes (2.7, figure
-- 7), the parameters of an animation have six (2.7.1.1); an image may have any, and of a frame only
-- its fields are taken here (ANMF), which are always 16 bytes
abbrev pub chunk_fits : List ℕ → ℕ → Bool
chunk_fits name size =
    if bytes_eq name (codes "VP8X") then size == 10 else
    if bytes_eq name (codes "ANIM") then size == 6 else
    bytes_eq name (codes "VP8 ") || bytes_eq name (codes "VP8L") || bytes_eq name (codes "ALPH")
    || bytes_eq name (codes "ANMF")

-- so many bytes at the front, with the chunk that they are
abbrev pub chunk_step : ℕ → List ℕ → Step
chunk_step len bytes = record {
  len = len;
  fits = nat_le 8 len && chunk_fits (take 4 bytes) (number_at 4 bytes);
  scanning = false;
}

-- the header of a file, or the chunk, at the front of bytes
abbrev pub webp_step : List ℕ → Step
webp_step bytes =
    if is_webp bytes then record { len = 12; fits = true; scanning = false }
    else chunk_step (chunk_piece (length bytes) bytes).len bytes
