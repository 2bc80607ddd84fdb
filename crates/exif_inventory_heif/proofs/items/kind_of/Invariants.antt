use Rattle.std.proofs.Common.{◌≡◌, length}
use Rattle.exif_inventory_heif.specs.Items.{kind_of}
use Rattle.exif_inventory_heif.proofs.items.kind_of.Given as goal

-- those that are left decide
abbrev pub invariant-loop-first : goal.invariant-loop-first
invariant-loop-first l = kind_of l.number l.rest ≡ kind_of l.number l.items

abbrev pub decreases-loop-first : goal.decreases-loop-first
decreases-loop-first l = length l.rest
