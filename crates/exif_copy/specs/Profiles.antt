-- The colour profile of the first picture of a file (ICC.1:2022, B.4; PNG Specification, Third
-- Edition, 11.3.2.3; WebP Container Specification, "Color Profile").
use Rattle.std.specs.Prelude.{ℕ, ◌+◌, ◌==◌, List, [], ◌∷◌, ◌++◌, codes, Option, None, Some, Result, Ok, Err, if◌then◌else◌}
use Rattle.std.specs.Option.{option_and_then}
use Rattle.exif_types.specs.Refusals.{Refusal, invalid_format, not_supported, ◌>>=◌}
use Rattle.exif_inventory.specs.declared.part.Part.{Part}
use Rattle.exif_inventory.specs.Walks.{inventory}
use Rattle.exif_copy.specs.declared.xmp_icc.found.Assembly.{Assembly}
use Rattle.exif_blocks.specs.PutViews.{Profile, plain, compressed}
use Rattle.exif_blocks.specs.declared.blocks.Block.TheVariants as block
use Rattle.exif_blocks.specs.declared.blocks.Container.{Container}
use Rattle.exif_blocks.specs.declared.blocks.Container.TheVariants as container
use Rattle.exif_copy.specs.Parts.{data_of, first_data, holds}

-- no profile
abbrev pub no_profile : Refusal
no_profile = invalid_format (codes "File without a colour profile")

-- not all segments in order
abbrev pub broken_profile : Refusal
broken_profile = invalid_format (codes "Broken colour profile")

-- another format
abbrev pub no_source : Refusal
no_source = not_supported (codes "colour profiles are copied from JPEG, PNG and WebP files only")

-- ---- the segments of a JPEG file

-- those that were read so far: the number of the last one, how many there are, and the bytes
pub record Segments : Type 0 where
  pub number : ℕ
  pub count : ℕ
  pub bytes : List ℕ

abbrev pub assembly_view : Assembly → Segments
assembly_view a = record { number = a.number; count = a.count; bytes = a.bytes.items }

-- none yet
abbrev pub begun : Segments
begun = record { number = 0; count = 0; bytes = [] }

-- with one more: its number, how many there are, and bytes
abbrev pub with_segment : Segments → List ℕ → Option Segments
with_segment read (number ∷ count ∷ bytes) =
    if number == read.number + 1
    then Some (record { number = number; count = count; bytes = read.bytes ++ bytes }) else None
with_segment read segment = None

-- with a part, if it is one
abbrev pub with_part : Segments → Part → List ℕ → Option Segments
with_part read part file =
    if holds block.Profile part then with_segment read (data_of part file) else Some read

-- with all parts
abbrev pub with_parts : Segments → List Part → List ℕ → Option Segments
with_parts read [] file = Some read
with_parts read (part ∷ parts) file =
    option_and_then (λ next. with_parts next parts file) (with_part read part file)

-- the profile in the segments
abbrev pub finished : Option Segments → Result Profile Refusal
finished None = Err broken_profile
finished (Some read) =
    if read.number == 0 then Err no_profile else
    if read.number == read.count then Ok (plain read.bytes) else Err broken_profile

-- ---- files

-- the data of a chunk
abbrev pub chunk_found : List Part → List ℕ → Result (List ℕ) Refusal
chunk_found parts file = elim (first_data block.Profile parts file) [
  | Some bytes ↦ Ok bytes
  | None ↦ Err no_profile
]

-- the profile of a file of these parts
abbrev pub profile_in : Container → List Part → List ℕ → Result Profile Refusal
profile_in container.Jpeg parts file = finished (with_parts begun parts file)
profile_in container.Png parts file = chunk_found parts file >>= λ bytes. Ok (compressed bytes)
profile_in container.WebP parts file = chunk_found parts file >>= λ bytes. Ok (plain bytes)
profile_in container.JpegXl parts file = Err no_source

-- the profile of a file
abbrev pub profile_of : Option Container → List ℕ → Result Profile Refusal
profile_of None file = Err no_source
profile_of (Some container) file = elim (inventory file) [
  | Some parts ↦ profile_in container parts file
  | None ↦ Err no_source
]
