-- Exif data replaced where they are in a file.
use Rattle.std.specs.Prelude.{◌≡◌, ℕ, ◌+◌, ◌^◌, ◌<◌, true, List, [], ◌∷◌, ◌++◌, length, take, drop, Ok}
use Rattle.exif_isobmff.specs.declared.locations.Extent.{Extent}
use Rattle.exif_containers.specs.Container.{begins_tiff}
use Rattle.exif_containers.specs.Located.{Located, located_answer}
use Rattle.exif_containers.specs.declared.container.Format.{Format}
use Rattle.exif_containers.specs.declared.container.Format.TheVariants.{Tiff, Jpeg, Heif, WebP}

-- a file with other bytes in its ranges, one range after the other
abbrev pub put_in : List Extent → List ℕ → List ℕ → List ℕ
put_in [] new file = file
put_in (e ∷ es) new file =
    put_in es (drop e.len new)
    (take e.offset file ++ (take e.len new ++ drop (e.offset + e.len) file))

-- what a container holds in the ranges of any data as long: TIFF data begin as such; of HEIF files
-- nothing is said, since the bytes of an item may also say where it is
abbrev pub CanStandIn : Format → List ℕ → Type 0
CanStandIn Tiff new = begins_tiff new ≡ true
CanStandIn Jpeg new = Unit {0}
CanStandIn WebP new = Unit {0}
CanStandIn Heif new = ⊥

-- such data in the ranges of others as long are located there
abbrev pub DataAreReplaced : List ℕ → Type 0
DataAreReplaced file =
    (found : Located) (new : List ℕ) → length file < 2 ^ 64 → located_answer file ≡ Ok found
    → length new ≡ length found.bytes → CanStandIn found.format new
    → located_answer (put_in found.ranges new file)
    ≡ Ok (record { format = found.format; ranges = found.ranges; bytes = new })
