-- What holds of pictures.
use Rattle.std.specs.Prelude.{◌≡◌, ℕ, List, take, drop, true, Some}
use Rattle.exif_containers.specs.Container as container
use Rattle.exif_containers.specs.Container.{begins_tiff, container_answer}
use Rattle.exif_containers.specs.declared.container.Format.{Format}
use Rattle.exif_formats.specs.Formats.{format_in}
use Rattle.exif_formats.specs.Magic.{as_tiff}
use Rattle.exif_formats.specs.Pictures.{as_read, data_as}
use Rattle.exif_formats.specs.declared.format.PictureFormat.TheVariants.{Container}

-- a file that is a container of Exif data has that format, is read as it is, and its Exif data are
-- those that the container has
abbrev pub ContainersAreReadSo : List ℕ → Type 0
ContainersAreReadSo bytes =
    (format : Format) → container.format_in (take 4096 bytes) ≡ Some format
    → (format_in (take 4096 bytes) ≡ Some (Container format))
    × (as_read (Some (Container format)) bytes ≡ bytes)
    × (data_as (Some (Container format)) bytes ≡ container_answer bytes)

-- such a file begins as TIFF data do as it is read, and goes on as it does
abbrev pub RawFilesAreTiff : List ℕ → Type 0
RawFilesAreTiff bytes =
    (begins_tiff (as_tiff bytes) ≡ true) × (drop 4 (as_tiff bytes) ≡ drop 4 bytes)
