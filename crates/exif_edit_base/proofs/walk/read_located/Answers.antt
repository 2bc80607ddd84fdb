use Rattle.std.proofs.Common.{ap, ◌∙◌}
use Rattle.exif_edit_base.specs.Locations.{gps_of}
use Rattle.exif_edit_base.proofs.LimitedReading.{walk_found}
use Rattle.exif_edit_base.proofs.walk.read_located.Goals as goal

pub returns-clause-offsets : goal.returns-clause-offsets
returns-clause-offsets c =
    let noted = c.in_ok-placed.ensures.offsets in
    let walk = c.in_ok-located.ensures.offsets in
    walk_found c.args.bytes.now c.in_ok-located.located.walk (record {
      entries = walk.entries ∙ noted.entries;
      gps = walk.gps ∙ ap gps_of noted.directories;
      directories = walk.directories ∙ noted.directories;
    })
