-- The format of a file, and the piece of its picture that comes next.
use Rattle.std.specs.Prelude.{ℕ, List, Bool, Option, Some, None, if◌then◌else◌}
use Rattle.exif_inventory.specs.JpegPieces.{is_jpeg}
use Rattle.exif_inventory.specs.JxlPieces.{is_jxl}
use Rattle.exif_inventory.specs.PngPieces.{is_png}
use Rattle.exif_inventory.specs.WebpPieces.{is_webp}
use Rattle.exif_lengths.specs.Jpeg.{jpeg_step}
use Rattle.exif_lengths.specs.Jxl.{jxl_step}
use Rattle.exif_lengths.specs.Png.{color_of, png_step}
use Rattle.exif_lengths.specs.Webp.{webp_step}
use Rattle.exif_lengths.specs.declared.format.Format.{Format}
use Rattle.exif_lengths.specs.declared.format.Format.TheVariants.{Jpeg, Webp, Png, Jxl}
use Rattle.exif_lengths.specs.declared.step.Step.{Step}

-- the format of a file, if it is one of these
abbrev pub format_of : List ℕ → Option Format
format_of file =
    if is_jpeg file then Some Jpeg else
    if is_webp file then Some Webp else
    if is_png file then Some (Png (color_of file)) else
    if is_jxl file then Some Jxl else None

-- the piece at the front of bytes of a picture
abbrev pub step_at : Format → Bool → List ℕ → Step
step_at Jpeg scanning bytes = jpeg_step scanning bytes
step_at Webp scanning bytes = webp_step bytes
step_at (Png color) scanning bytes = png_step color bytes
step_at Jxl scanning bytes = jxl_step bytes
