-- What holds of pictures.
use Rattle.std.proofs.Common.{◌≡◌, ℕ, Bool, true, false, cond, List, ◌++◌, take, drop, codes, Some, refl, ap, sym, ◌∙◌}
use Rattle.std.specs.Str.{bytes_eq}
use Rattle.exif_containers.specs.Container as container
use Rattle.exif_containers.specs.Container.{answer_as, begins_tiff, container_answer}
use Rattle.exif_containers.specs.declared.container.Format.{Format}
use Rattle.exif_formats.specs.Formats.{format_in, known_or, other_format_in}
use Rattle.exif_formats.specs.Laws.{ContainersAreReadSo, RawFilesAreTiff}
use Rattle.exif_formats.specs.Pictures.{as_read, data_as}
use Rattle.exif_formats.specs.declared.format.PictureFormat.TheVariants.{Container}

format_same : (signature : List ℕ) (format : Format) → container.format_in signature ≡ Some format → format_in signature ≡ Some (Container format)
unfolding format_in
format_same signature format e = ap (λ known. known_or known (other_format_in signature)) e

read_same : (format : Format) (bytes : List ℕ) → as_read (Some (Container format)) bytes ≡ bytes
read_same format bytes = refl

data_same : (format : Format) (bytes : List ℕ) → data_as (Some (Container format)) bytes ≡ answer_as (Some format) bytes
unfolding data_as
data_same format bytes = refl

contained : (format : Format) (bytes : List ℕ) → container.format_in (take 4096 bytes) ≡ Some format → answer_as (Some format) bytes ≡ container_answer bytes
unfolding container_answer
contained format bytes e = ap (λ known. answer_as known bytes) (sym e)

pub containers_same : (bytes : List ℕ) → ContainersAreReadSo bytes
containers_same bytes format e =
    (format_same (take 4096 bytes) format e, read_same format bytes, data_same format bytes ∙ contained format bytes e)

begun : (big : Bool) (rest : List ℕ) → begins_tiff (cond big (codes "MM\0*") (codes "II*\0") ++ rest) ≡ true
begun true rest = refl
begun false rest = refl

goes_on : (big : Bool) (rest : List ℕ) → drop 4 (cond big (codes "MM\0*") (codes "II*\0") ++ rest) ≡ rest
goes_on true rest = refl
goes_on false rest = refl

pub raw_tiff : (bytes : List ℕ) → RawFilesAreTiff bytes
raw_tiff bytes =
    (begun (bytes_eq (take 1 bytes) (codes "M")) (drop 4 bytes), goes_on (bytes_eq (take 1 bytes) (codes "M")) (drop 4 bytes))
