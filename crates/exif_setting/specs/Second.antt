-- Whether a file has more than one block of Exif data: where it is written again, all go, and one
-- is put in their place.
use Rattle.std.specs.Prelude.{ℕ, ◌-◌, ◌^◌, nat_lt, Bool, true, false, List, ◌∷◌, ◌++◌, length, take, drop, Some, None, Ok, Err}
use Rattle.std.specs.List.{filter}
use Rattle.exif_containers.specs.declared.container.Format.{Format}
use Rattle.exif_containers.specs.declared.container.Format.TheVariants.{Tiff, Jpeg, Heif, WebP}
use Rattle.exif_inventory.specs.Walks.{inventory}
use Rattle.exif_inventory.specs.declared.kind.Kind.TheVariants as kind
use Rattle.exif_inventory.specs.declared.part.Part.{Part}
use Rattle.exif_segments.specs.Answer.{Answer}
use Rattle.exif_segments.specs.Jpeg.{jpeg_answer}

-- whether Exif data were found
abbrev pub is_found : Answer → Bool
is_found (Ok found) = true
is_found (Err refusal) = false

-- whether Exif data are found in a JPEG stream that goes on so behind its first two bytes
abbrev pub found_behind : List ℕ → Bool
found_behind rest = is_found (jpeg_answer (take (2 ^ 64 - 1) (255 ∷ 216 ∷ rest)))

-- whether Exif data are found in a JPEG stream, of which 2^64 - 1 bytes are read, and others behind
-- them
abbrev pub second_in_jpeg : List ℕ → Bool
second_in_jpeg file = elim (jpeg_answer (take (2 ^ 64 - 1) file)) [
  | Ok found ↦ found_behind (found.1 ++ drop (2 ^ 64 - 1) file)
  | Err refusal ↦ false
]

-- whether a part holds Exif data
abbrev pub is_exif : Part → Bool
is_exif part = elim part.kind [ kind.Exif ↦ true | other ↦ false ]

-- whether a WebP file has more than one chunk of Exif data
abbrev pub second_in_webp : List ℕ → Bool
second_in_webp file = elim (inventory file) [
  | Some parts ↦ nat_lt 1 (length (filter is_exif parts))
  | None ↦ false
]

-- whether a file has a second block of Exif data that would be lost
abbrev pub has_second : Format → List ℕ → Bool
has_second Jpeg file = second_in_jpeg file
has_second WebP file = second_in_webp file
has_second Heif file = false
has_second Tiff file = false
