use Rattle.std.proofs.Common.{◌≡◌, ◌-◌}
use Rattle.exif_isobmff.specs.declared.kind.Kind.TheVariants.{ItemInfoEntry}
use Rattle.exif_isobmff.specs.Items.{exif_number}
use Rattle.exif_isobmff.specs.Boxes.{from_count}
use Rattle.exif_isobmff.proofs.items.exif_item_of.Given as goal

-- what was found and what is still read is what is read in all
abbrev pub invariant-loop : goal.invariant-loop
invariant-loop l = from_count ItemInfoEntry exif_number l.last (l.count - l.counter) l.rest ≡ from_count ItemInfoEntry exif_number l.fn.found l.count l.fn.rest
