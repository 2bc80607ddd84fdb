-- A whole WebP file that is written again: its refusals.
use Rattle.std.specs.Prelude.{List, [], ◌∷◌}
use Rattle.exif_types.specs.Refusals.{Refusal}
use Rattle.exif_segments.specs.Removing.{too_large}
use Rattle.exif_segments.specs.Webp.{broken_webp, invalid_file_size, not_webp, overflowing}
use Rattle.exif_parts.specs.Webp.{no_canvas}

-- all refusals of a WebP file that is written again
abbrev pub webp_rewriting_refusals : List Refusal
webp_rewriting_refusals =
    broken_webp ∷ not_webp ∷ invalid_file_size ∷ overflowing ∷ no_canvas ∷ too_large
    ∷ []
