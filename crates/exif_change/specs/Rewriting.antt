-- JPEG and WebP files that are written again.
use Rattle.std.specs.Prelude.{ℕ, List, [], ◌∷◌, Option, Some, Result, Ok, Err}
use Rattle.exif_types.specs.Refusals.{Refusal}
use Rattle.exif_containers.specs.declared.container.Format.{Format}
use Rattle.exif_containers.specs.declared.container.Format.TheVariants.{Tiff, Jpeg, Heif, WebP}
use Rattle.exif_segments.specs.declared.remove.Remove.{Remove}
use Rattle.exif_parts.specs.Jpeg as parts
use Rattle.exif_parts.specs.Webp.{webp_rewritten}
use Rattle.exif_parts.specs.Written.{Written}
use Rattle.exif_parts.specs.declared.rewritten.Ended.{Ended}
use Rattle.exif_parts.specs.declared.rewritten.Ended.TheVariants.{Whole, Cut}
use Rattle.exif_change.specs.Changed.{Change, whole}
use Rattle.exif_change.specs.Changed as undone

-- the bytes of a JPEG stream that was written again; where it ends before its picture does, that is
-- said
abbrev pub stream_change : List ℕ → Ended → Change
stream_change bytes Whole = whole bytes
stream_change bytes Cut = record { file = bytes; undone = Some undone.cut_off ∷ [] }

-- such a stream, if it is not refused
abbrev pub stream_ended : Result Written Refusal → Result Change Refusal
stream_ended (Ok new) = Ok (stream_change new.bytes new.ended)
stream_ended (Err refusal) = Err refusal

-- what a JPEG stream becomes: the pieces of its inventory that stay, and new Exif data
abbrev pub rewritten_jpeg : Remove → Option (List ℕ) → List ℕ → Result Change Refusal
rewritten_jpeg remove put file = stream_ended (parts.rewritten remove put file)

-- a whole file, if it is one
abbrev pub if_whole : Result (List ℕ) Refusal → Result Change Refusal
if_whole (Ok file) = Ok (whole file)
if_whole (Err refusal) = Err refusal

-- what a WebP file becomes
abbrev pub rewritten_webp : Remove → Option (List ℕ) → List ℕ → Result Change Refusal
rewritten_webp remove put file = if_whole (webp_rewritten remove put file)

-- what such a file becomes
abbrev pub rewritten : Format → Remove → Option (List ℕ) → List ℕ → Result Change Refusal
rewritten Jpeg remove put file = rewritten_jpeg remove put file
rewritten WebP remove put file = rewritten_webp remove put file
rewritten Heif remove put file = rewritten_webp remove put file
rewritten Tiff remove put file = rewritten_webp remove put file
