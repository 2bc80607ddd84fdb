-- What is shown of a picture beside its Exif data.
use Rattle.std.specs.Prelude.{ℕ, Bool, true, false, List, Option, None, Some}
use Rattle.exif_containers.specs.declared.container.Format.TheVariants.{Tiff}
use Rattle.exif_formats.specs.declared.format.PictureFormat.{PictureFormat}
use Rattle.exif_formats.specs.declared.format.PictureFormat.TheVariants as format
use Rattle.exif_values.specs.Readings.{read}
use Rattle.exif_values.specs.Values.{Found, nothing}

-- whether files of a format have packets outside of the fields of their Exif data
abbrev pub has_packets : Option PictureFormat → Bool
has_packets None = false
has_packets (Some (format.Container Tiff)) = false
has_packets (Some (format.Container known)) = true
has_packets (Some format.Png) = true
has_packets (Some format.JpegXl) = true
has_packets (Some raw) = false

-- the values of a file, if its format has packets
abbrev pub values_by : Option Found → Found
values_by None = nothing
values_by (Some found) = found

abbrev pub values_in : List ℕ → Found
values_in file = values_by (read file)
