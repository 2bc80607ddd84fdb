-- A file with the XMP packet or the colour profile of another one in place of its own.
use Rattle.std.specs.Prelude.{ℕ, List, Result, Ok, Err}
use Rattle.exif_types.specs.Refusals.{Refusal, ◌>>=◌}
use Rattle.exif_blocks.specs.JpegBlocks.{jpeg_with, profile_segments, xmp_segments}
use Rattle.exif_blocks.specs.JxlBlocks.{jxl_with_xmp}
use Rattle.exif_blocks.specs.PngBlocks.{png_with_profile, png_with_xmp}
use Rattle.exif_blocks.specs.PutRefusals.{is_compressed, no_profile_box}
use Rattle.exif_blocks.specs.PutViews.{Packet, Profile, plain, compressed}
use Rattle.exif_blocks.specs.WebpBlocks.{webp_with_profile, webp_with_xmp}
use Rattle.exif_blocks.specs.declared.blocks.Block.TheVariants as block
use Rattle.exif_blocks.specs.declared.blocks.Container.{Container}
use Rattle.exif_blocks.specs.declared.blocks.Container.TheVariants.{Jpeg, Png, WebP, JpegXl}

-- ---- XMP packets

-- a JPEG file with this packet in place of its own
abbrev pub jpeg_with_xmp : Packet → List ℕ → Result (List ℕ) Refusal
jpeg_with_xmp xmp file = xmp_segments xmp >>= λ segments. jpeg_with block.Xmp segments file

-- a file with this packet
abbrev pub with_xmp : Container → Packet → List ℕ → Result (List ℕ) Refusal
with_xmp Jpeg xmp file = jpeg_with_xmp xmp file
with_xmp Png xmp file = png_with_xmp xmp file
with_xmp WebP xmp file = webp_with_xmp xmp file
with_xmp JpegXl xmp file = jxl_with_xmp xmp file

-- ---- colour profiles

-- the bytes of a profile that is not compressed
abbrev pub bytes_of : Profile → Result (List ℕ) Refusal
bytes_of (plain bytes) = Ok bytes
bytes_of (compressed text) = Err is_compressed

-- a JPEG file with this profile in place of its own
abbrev pub jpeg_with_profile : Profile → List ℕ → Result (List ℕ) Refusal
jpeg_with_profile profile file =
    bytes_of profile >>= λ bytes.
    profile_segments bytes >>= λ segments. jpeg_with block.Profile segments file

-- a WebP file with it
abbrev pub webp_with : Profile → List ℕ → Result (List ℕ) Refusal
webp_with profile file = bytes_of profile >>= λ bytes. webp_with_profile bytes file

-- a file with this profile
abbrev pub with_profile : Container → Profile → List ℕ → Result (List ℕ) Refusal
with_profile Jpeg profile file = jpeg_with_profile profile file
with_profile Png profile file = png_with_profile profile file
with_profile WebP profile file = webp_with profile file
with_profile JpegXl profile file = Err no_profile_box
