-- A file written again, as its first 4096 bytes say which container it is.
use Rattle.std.specs.Prelude.{◌≡◌, ◌⊎◌, ℕ, List, ◌∷◌, ◌++◌, take, codes, Option, None, Some, Result, Err}
use Rattle.exif_types.specs.Refusals.{Refusal, not_supported}
use Rattle.exif_containers.specs.declared.container.Format.{Format}
use Rattle.exif_containers.specs.declared.container.Format.TheVariants.{Tiff, Jpeg, Heif, WebP}
use Rattle.exif_containers.specs.Container.{format_in, unknown_format}
use Rattle.exif_segments.specs.declared.remove.Remove.{Remove}
use Rattle.exif_parts.specs.Webp.{webp_rewritten}
use Rattle.exif_rewrite.specs.RewrittenJpeg.{jpeg_rewriting, jpeg_rewriting_refusals}
use Rattle.exif_rewrite.specs.RewrittenWebp.{webp_rewriting_refusals}

-- what TIFF data and HEIF files hold is found by its offset in the file
abbrev pub tiff_stays : Refusal
tiff_stays = not_supported (codes "TIFF data are edited in place")

-- the refusal of HEIF files, which are not written again but edited in place
abbrev pub heif_stays : Refusal
heif_stays = not_supported (codes "HEIF files are edited in place")

-- all refusals of a file that is written again
abbrev pub file_refusals : List Refusal
file_refusals =
    unknown_format ∷ tiff_stays ∷ heif_stays
    ∷ (jpeg_rewriting_refusals ++ webp_rewriting_refusals)

-- the containers of files that are written again, for which files are held in memory
abbrev pub IsRewritten : Option Format → Type 0
IsRewritten format = (format ≡ Some Jpeg) ⊎ (format ≡ Some WebP)

-- what the bytes of a container become
unfoldable pub rewriting_as : Option Format → Remove → Option (List ℕ) → List ℕ
    → Result (List ℕ) Refusal
rewriting_as (Some Jpeg) remove put bytes = jpeg_rewriting remove put bytes
rewriting_as (Some WebP) remove put bytes = webp_rewritten remove put bytes
rewriting_as (Some Heif) remove put bytes = Err heif_stays
rewriting_as (Some Tiff) remove put bytes = Err tiff_stays
rewriting_as None remove put bytes = Err unknown_format

-- the first 4096 bytes, or all if there are fewer, choose
unfoldable pub file_rewriting : Remove → Option (List ℕ) → List ℕ → Result (List ℕ) Refusal
file_rewriting remove put bytes = rewriting_as (format_in (take 4096 bytes)) remove put bytes
