use Rattle.std.proofs.Common.{length, rules}
use Rattle.exif_movie.proofs.PartOrder.{found_ordered, parts_inside}
use Rattle.exif_movie.proofs.file.parts.Goals as goal

pub returns-clause-covers : goal.returns-clause-covers
returns-clause-covers c =
    found_ordered c.args.file.now c.in_ok-opened.opened.items c.in_ok-found.found.items (search rules) (search rules)

pub returns-clause-inside : goal.returns-clause-inside
returns-clause-inside c =
    let ordered = found_ordered c.args.file.now c.in_ok-opened.opened.items c.in_ok-found.found.items (search rules) (search rules) in
    parts_inside 0 c.in_ok-found.found.items (length c.args.file.now) ordered
