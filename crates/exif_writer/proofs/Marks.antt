-- An image begins as TIFF data do.
use Rattle.std.proofs.Common.{◌≡◌, List, true, refl}
use Rattle.exif_base.specs.declared.endian.Order.{Order}
use Rattle.exif_base.specs.declared.endian.Order.TheVariants.{Big, Little}
use Rattle.exif_containers.specs.Container.{begins_tiff}
use Rattle.exif_layout.specs.Groups.{Group}
use Rattle.exif_layout.specs.Image.{image}

-- an image begins as TIFF data do, in either byte order and whatever its groups are
pub begins_image : (order : Order) (groups : List Group) → begins_tiff (image order groups) ≡ true
unfolding image
begins_image Big groups = refl
begins_image Little groups = refl
