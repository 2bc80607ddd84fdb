use Rattle.std.proofs.Common.{◌≡◌, length}
use Rattle.exif_inventory_heif.specs.Inventories.{any_brand}
use Rattle.exif_inventory_heif.proofs.parts.any_brand.Given as goal

-- those that are left decide
abbrev pub invariant-loop-rest : goal.invariant-loop-rest
invariant-loop-rest l = any_brand l.rest ≡ any_brand l.brands

abbrev pub decreases-loop-rest : goal.decreases-loop-rest
decreases-loop-rest l = length l.rest
