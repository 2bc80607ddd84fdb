-- A whole JPEG file that is written again: the pieces of its inventory that stay, and new Exif data.
use Rattle.std.specs.Prelude.{ℕ, List, [], ◌∷◌, Option, Result, Ok, Err}
use Rattle.exif_types.specs.Refusals.{Refusal, ◌>>=◌}
use Rattle.exif_segments.specs.Jpeg.{broken_jpeg, invalid_length, not_jpeg, unexpected_soi}
use Rattle.exif_segments.specs.Removing.{too_large}
use Rattle.exif_segments.specs.declared.remove.Remove.{Remove}
use Rattle.exif_parts.specs.Jpeg.{rewritten}
use Rattle.exif_parts.specs.Written.{Written}
use Rattle.exif_parts.specs.declared.rewritten.Ended.{Ended}
use Rattle.exif_parts.specs.declared.rewritten.Ended.TheVariants.{Whole, Cut}

-- the bytes of a file, however the old one ended
abbrev pub as_it_stands : Result Written Refusal → Result (List ℕ) Refusal
as_it_stands new = new >>= λ new. Ok new.bytes

-- the same, where a file that ends before its image does is refused
abbrev pub unless_cut : Ended → List ℕ → Result (List ℕ) Refusal
unless_cut Whole bytes = Ok bytes
unless_cut Cut bytes = Err broken_jpeg

-- a file without its Exif data, or without all metadata, and with new Exif data if there are some
abbrev pub jpeg_rewriting : Remove → Option (List ℕ) → List ℕ → Result (List ℕ) Refusal
jpeg_rewriting remove put bytes =
    rewritten remove put bytes >>= λ new. unless_cut new.ended new.bytes

-- all refusals of a JPEG file that is written again
abbrev pub jpeg_rewriting_refusals : List Refusal
jpeg_rewriting_refusals =
    broken_jpeg ∷ not_jpeg ∷ unexpected_soi ∷ invalid_length ∷ too_large ∷ []
