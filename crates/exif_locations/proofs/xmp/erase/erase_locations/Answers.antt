use Rattle.std.proofs.Common.{sym, ◌∙◌}
use Rattle.exif_locations.proofs.XmpWalkSteps.{ok_of_found}
use Rattle.exif_locations.proofs.xmp.erase.erase_locations.Goals as goal

pub erase-requires : goal.erase-requires
erase-requires c = ok_of_found c.args.packet.now c.in_ok-found.found (sym c.find.ensures ∙ c.in_ok-found.was)
