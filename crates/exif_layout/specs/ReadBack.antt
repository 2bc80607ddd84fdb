-- What is promised of reading an image.
use Rattle.std.specs.Prelude.{ℕ, ◌<◌, ◌≡◌, nat_lt, Bool, true, false, List, [], ◌∷◌, length, None}
use Rattle.std.specs.List.{filter}
use Rattle.exif_base.specs.declared.endian.Order.{Order}
use Rattle.exif_types.specs.declared.field.Field.{Field}
use Rattle.exif_tiff.specs.declared.fault.Fault.TheVariants.{TooManyDirectories}
use Rattle.exif_tiff.specs.Answers.{Whole, Partial, Refused, raw_answer}
use Rattle.exif_layout.specs.Groups.{Group}
use Rattle.exif_layout.specs.Image.{image}
use Rattle.exif_layout.specs.Flat.{flat}

-- strict and lenient reading of the image both give all the flat fields
abbrev pub ReadsBack : Order → List Group → Type 0
ReadsBack order groups =
    (lenient : Bool) → raw_answer lenient None (image order groups) ≡ Whole (flat groups)

-- the fields of the first eight directories of a chain
abbrev pub first_eight : List Field → List Field
first_eight all = filter (λ field. nat_lt field.ifd_num.0 8) all

-- of more than eight directories the fields of the first eight are read, and the only fault is that
-- there are more
abbrev pub ReadsFirstEight : Order → List Group → Type 0
ReadsFirstEight order groups = 8 < length groups
    → (raw_answer true None (image order groups)
    ≡ Partial (first_eight (flat groups)) (TooManyDirectories ∷ []))
    × (raw_answer false None (image order groups) ≡ Refused TooManyDirectories)
