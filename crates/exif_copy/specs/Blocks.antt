-- The XMP packet and the colour profile of a picture put into a changed file.
use Rattle.std.specs.Prelude.{ℕ, List, codes, Bool, Option, None, Some, Result, Ok, Err, if◌then◌else◌}
use Rattle.exif_types.specs.Refusals.{Refusal, not_supported, ◌>>=◌}
use Rattle.exif_containers.specs.declared.container.Format.TheVariants as known
use Rattle.exif_formats.specs.declared.format.PictureFormat.{PictureFormat}
use Rattle.exif_formats.specs.declared.format.PictureFormat.TheVariants as format
use Rattle.exif_change.specs.Changed.{Change}
use Rattle.exif_copy.specs.Packets.{xmp_of}
use Rattle.exif_copy.specs.Profiles.{profile_of}
use Rattle.exif_blocks.specs.PutBlocks.{with_profile, with_xmp}
use Rattle.exif_blocks.specs.declared.blocks.Container.{Container}
use Rattle.exif_blocks.specs.declared.blocks.Container.TheVariants as container
use Rattle.exif_copy.specs.Found.{exif_found, format_for}
use Rattle.exif_copy.specs.declared.selected.Selection.{Selection}

-- the container of files of a format, if a packet and a profile can be put into them
abbrev pub container_of : Option PictureFormat → Option Container
container_of (Some (format.Container known.Jpeg)) = Some container.Jpeg
container_of (Some format.Png) = Some container.Png
container_of (Some (format.Container known.WebP)) = Some container.WebP
container_of (Some format.JpegXl) = Some container.JpegXl
container_of _ = None

-- that of a file
abbrev pub container_for : List ℕ → Option Container
container_for file = container_of (format_for file)

-- nothing is put into other files
abbrev pub no_container : Refusal
no_container =
    not_supported
    (codes "packets and profiles are copied into JPEG, WebP, PNG and JPEG XL files only")

-- ---- what a picture must have

-- its packet, if it is requested
abbrev pub packet_checked : Bool → List ℕ → Result (Unit {0}) Refusal
packet_checked requested from =
    if requested then (xmp_of from >>= λ xmp. Ok tt) else Ok tt

-- its profile, if it is requested
abbrev pub profile_checked : Bool → List ℕ → Result (Unit {0}) Refusal
profile_checked requested from =
    if requested then (profile_of (container_for from) from >>= λ profile. Ok tt) else Ok tt

-- its Exif data, and what else is selected
abbrev pub source_checked : Selection → List ℕ → Result (Unit {0}) Refusal
source_checked selection from =
    exif_found from
    >>= (λ contents. packet_checked selection.xmp from)
    >>= (λ u. profile_checked selection.color_profile from)

-- ---- changed files

-- a change with another file
abbrev pub refiled : Change → List ℕ → Change
refiled change file = record { file = file; undone = change.undone }

-- what is made of a file, by its container
abbrev pub by_container : List ℕ → (Container → Result (List ℕ) Refusal) → Result (List ℕ) Refusal
by_container file make = elim (container_for file) [
  | Some container ↦ make container
  | None ↦ Err no_container
]

-- a changed file with the packet of a picture
abbrev pub packet_put : List ℕ → Change → Result Change Refusal
packet_put from change =
    by_container change.file
    (λ container. xmp_of from >>= λ xmp. with_xmp container xmp change.file)
    >>= λ file. Ok (refiled change file)

-- a changed file with the profile of a picture
abbrev pub profile_put : List ℕ → Change → Result Change Refusal
profile_put from change =
    by_container change.file
    (λ container. profile_of (container_for from) from >>= λ profile.
    with_profile container profile change.file)
    >>= λ file. Ok (refiled change file)
