-- A TIFF file without its metadata (TIFF 6.0, section 2, "Image File Header").
use Rattle.std.specs.Global.{Global}
use Rattle.std.specs.Prelude.{Vec, ℕ, Bool, true, false, ◌&&◌, ◌||◌, List, [], length, take, drop, replicate, codes, nat_lt, Result, Ok, Err, if◌then◌else◌}
use Rattle.std.specs.Str.{bytes_eq}
use Rattle.exif_base.specs.Orders.{number_of}
use Rattle.exif_base.specs.declared.endian.Order.{Order}
use Rattle.exif_base.specs.declared.endian.Order.TheVariants.{Big, Little}
use Rattle.exif_scrub.specs.Directories.{chain_walked}
use Rattle.exif_scrub.specs.Keeping.{◌>>=◌, kept_bytes, number_in}
use Rattle.exif_scrub.specs.declared.tiff.fault.Fault.{Fault}
use Rattle.exif_scrub.specs.declared.tiff.fault.Fault.TheVariants.{NoHeader, Raw, SharedBytes}
use Rattle.exif_scrub.specs.declared.tiff.pass.Pass.{Pass}
use Rattle.exif_scrub.specs.declared.tiff.pass.Pass.TheVariants.{Keep, Pictures, Tags}

-- the order of the numbers of a TIFF file; Canon's CR2 files have a mark behind the header
abbrev pub order_in : List ℕ → Result Order Fault
order_in file =
    if nat_lt (length file) 10 then Err NoHeader else
    if bytes_eq (take 2 (drop 8 file)) (codes "CR") then Err Raw else
    if bytes_eq (take 4 file) (codes "II*\0") then Ok Little else
    if bytes_eq (take 4 file) (codes "MM\0*") then Ok Big else Err NoHeader

-- the new file after a walk over the directories of a file
abbrev pub file_walked : Pass → List ℕ → List ℕ → Result (List ℕ) Fault
file_walked pass file new =
    order_in file >>= λ order. number_in (number_of order) 4 file 4
    >>= λ first. chain_walked order file pass 1000 first new

-- the new file with what stays of a file
abbrev pub file_kept : Bool → List ℕ → List ℕ → Result (List ℕ) Fault
file_kept keeps_orientation file new =
    order_in file >>= λ order. kept_bytes file 0 8 0 new
    >>= file_walked (Keep keeps_orientation) file

-- zeros but for what stays of a file
abbrev pub kept_once : Bool → List ℕ → Result (List ℕ) Fault
kept_once keeps_orientation file = file_kept keeps_orientation file (replicate (length file) 0)

-- whether a walk was not refused
abbrev pub is_ok : Result (List ℕ) Fault → Bool
is_ok (Ok made) = true
is_ok (Err fault) = false

-- whether a walk made this
abbrev pub makes : List ℕ → Result (List ℕ) Fault → Bool
makes new (Ok made) = bytes_eq made new
makes new (Err fault) = false

-- whether all tags of a file describe the picture, and none of its JPEG streams has metadata
abbrev pub only_described : Bool → List ℕ → Bool
only_described keeps_orientation file = is_ok (file_walked (Tags keeps_orientation) file [])

-- whether all of a file stays where it is scrubbed, and it has no other tags
abbrev pub is_settled : Bool → List ℕ → Bool
is_settled keeps_orientation new =
    makes new (kept_once keeps_orientation new) && only_described keeps_orientation new

-- whether a new file has the picture's data as they were: all bytes are, or each strip, tile and
-- JPEG stream of the old one is, without metadata in such a stream
abbrev pub keeps_picture : List ℕ → List ℕ → Bool
keeps_picture old new = bytes_eq old new || makes new (file_walked Pictures old new)

-- a new file, if that is so
abbrev pub if_settled : Bool → List ℕ → List ℕ → Result (List ℕ) Fault
if_settled keeps_orientation old new =
    if is_settled keeps_orientation new && keeps_picture old new then Ok new else Err SharedBytes

-- a file without its metadata: zeros but for what stays
abbrev pub scrubbed : Bool → List ℕ → Result (List ℕ) Fault
scrubbed keeps_orientation file =
    kept_once keeps_orientation file >>= if_settled keeps_orientation file

-- the bytes of a file that a call made
abbrev pub file_made : Result (Vec ℕ Global) Fault → Result (List ℕ) Fault
file_made (Ok new) = Ok new.items
file_made (Err fault) = Err fault
