-- Refusals in words.
use Rattle.std.specs.Prelude.{ℕ, List, codes}
use Rattle.exif_movie.specs.declared.file.Refusal.{Refusal}
use Rattle.exif_movie.specs.declared.file.Refusal.TheVariants as refusal

-- a refusal in words
abbrev pub refusal_text : Refusal → List ℕ
refusal_text refusal.Format = codes "the file is no QuickTime or MP4 video"
refusal_text refusal.NoMovie = codes "the video has no movie box"
