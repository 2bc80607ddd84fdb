use Rattle.std.proofs.Common.{sym, ◌∙◌}
use Rattle.exif_locations.proofs.IptcWalkSteps.{ok_of_found}
use Rattle.exif_locations.proofs.iptc.erase.erase_locations.Goals as goal

pub erase-requires : goal.erase-requires
erase-requires c = ok_of_found c.args.input.now c.in_ok-found.found (sym c.find.ensures ∙ c.in_ok-found.was)
