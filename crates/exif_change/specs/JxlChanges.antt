-- What becomes of a JPEG XL file that is written again.
use Rattle.std.specs.Prelude.{ℕ, List, false, Option, None, Result, Ok, Err, if◌then◌else◌}
use Rattle.exif_containers.specs.Container.{data_of}
use Rattle.exif_formats.specs.Jxl.{begins_codestream, jxl_answer}
use Rattle.exif_parts.specs.Jxl.{jxl_rewritten, no_container}
use Rattle.exif_parts.specs.JxlLaws.{bytes_of}
use Rattle.exif_segments.specs.declared.remove.Remove.{Remove}
use Rattle.exif_segments.specs.declared.remove.Remove.TheVariants as remove
use Rattle.exif_types.specs.Refusals as types
use Rattle.exif_change.specs.Changed.{Change, whole}
use Rattle.exif_change.specs.Found.{with_found}
use Rattle.exif_change.specs.Refusals.{Reason, as_read, ◌>>=◌}

-- the Exif data of a JPEG XL file; a codestream without a container has no place for any
abbrev pub jxl_data : List ℕ → Result (List ℕ) types.Refusal
jxl_data file =
    if begins_codestream file then Err no_container else data_of (jxl_answer file)

-- the file without what is removed, and with other Exif data if there are some
abbrev pub rewritten : Remove → Option (List ℕ) → List ℕ → Result (List ℕ) Reason
rewritten what put file = as_read (bytes_of (jxl_rewritten what put file))

-- a JPEG XL file without its metadata, with what is found in it then; a codestream without a
-- container has none
abbrev pub jxl_emptied : List ℕ → Result Change Reason
jxl_emptied file =
    if begins_codestream file then Ok (whole file) else
    rewritten remove.Metadata None file >>= λ new. with_found false (Ok (whole new))
