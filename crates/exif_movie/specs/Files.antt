-- The parts of a file.
use Rattle.std.specs.Global.{Global}
use Rattle.std.specs.List.{list_any}
use Rattle.std.specs.Prelude.{Vec, ℕ, List, length, take, codes, nat_le, Bool, true, false, not, ◌&&◌, ◌||◌, Option, Some, None, Result, Ok, Err, if◌then◌else◌}
use Rattle.std.specs.Str.{bytes_eq}
use Rattle.exif_inventory.specs.BoxHeaders.{content_of, name_of}
use Rattle.exif_inventory.specs.declared.boxes.Head.{Head}
use Rattle.exif_movie.specs.Boxes.{head_at}
use Rattle.exif_movie.specs.Named.{named}
use Rattle.exif_movie.specs.Walks.{opened_file}
use Rattle.exif_movie.specs.declared.file.Refusal.{Refusal}
use Rattle.exif_movie.specs.declared.file.Refusal.TheVariants as refusal
use Rattle.exif_movie.specs.declared.kind.Kind.{Kind}
use Rattle.exif_movie.specs.declared.kind.Kind.TheVariants as kind
use Rattle.exif_movie.specs.declared.kind.Container.TheVariants as container
use Rattle.exif_movie.specs.declared.part.Part.{Part}

-- whether a brand is one of pictures: HEIF, AVIF, CR3, JPEG XL, JPEG 2000
abbrev pub is_picture_brand : List ℕ → Bool
is_picture_brand brand =
    bytes_eq brand (codes "heic") || bytes_eq brand (codes "heix") || bytes_eq brand (codes "heim")
    || bytes_eq brand (codes "heis") || bytes_eq brand (codes "mif1")
    || bytes_eq brand (codes "avif") || bytes_eq brand (codes "avis")
    || bytes_eq brand (codes "crx ") || bytes_eq brand (codes "jxl ")
    || bytes_eq brand (codes "jp2 ")

-- whether a video may begin with a box of this type and content
abbrev pub begins_as_video : List ℕ → List ℕ → Bool
begins_as_video name content =
    if bytes_eq name (codes "ftyp")
    then nat_le 4 (length content) && not (is_picture_brand (take 4 content)) else
    bytes_eq name (codes "moov") || bytes_eq name (codes "mdat") || bytes_eq name (codes "wide")
    || bytes_eq name (codes "free") || bytes_eq name (codes "skip")
    || bytes_eq name (codes "pnot")

abbrev pub begins_video : List ℕ → Option Head → Bool
begins_video file None = false
begins_video file (Some head) = begins_as_video (name_of file) (content_of head file)

-- whether a file begins as a video does
abbrev pub is_video : List ℕ → Bool
is_video file = begins_video file (head_at true file)

-- whether a part is the header of the movie box
abbrev pub is_header : Kind → Bool
is_header (kind.Header container.Movie) = true
is_header k = false

abbrev pub has_movie : List Part → Bool
has_movie parts = list_any (λ part. is_header part.kind) parts

-- the parts of a file with these boxes
abbrev pub parts_with : List ℕ → List Part → Result (List Part) Refusal
parts_with file parts =
    if has_movie parts then Ok (named file None parts) else Err refusal.NoMovie

-- the parts of a file, if it is a video
abbrev pub parts_of : List ℕ → Result (List Part) Refusal
parts_of file =
    if is_video file then parts_with file (opened_file file) else Err refusal.Format

-- the answer of a call, as plain data
abbrev pub parts_view : Result (Vec Part Global) Refusal → Result (List Part) Refusal
parts_view (Ok found) = Ok found.items
parts_view (Err reason) = Err reason
