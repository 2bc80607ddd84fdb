-- The headers of the boxes of a file (ISO/IEC 14496-12:2015, 4.2).
use Rattle.std.specs.Prelude.{ℕ, ◌-◌, nat_lt, ◌&&◌, if◌then◌else◌, List, take, drop, Option, Some, None, Result, Ok, Err}
use Rattle.exif_types.specs.Refusals.{Refusal}
use Rattle.exif_isobmff.specs.Boxes.{box_size, header_len, sizes_itself}
use Rattle.exif_formats.specs.declared.headers.FileHeader.{FileHeader}

-- how many bytes of a box follow its header, if it says its size
abbrev pub payload_len : List ℕ → Option ℕ
payload_len header =
    if sizes_itself header then Some (box_size header - header_len header) else None

-- what the bytes of a header say; a size that is less than that of the header is refused
abbrev pub file_header : Refusal → List ℕ → Result FileHeader Refusal
file_header wrong_size header =
    if sizes_itself header && nat_lt (box_size header) (header_len header) then Err wrong_size
    else Ok (record { name = take 4 (drop 4 header); len = payload_len header })
