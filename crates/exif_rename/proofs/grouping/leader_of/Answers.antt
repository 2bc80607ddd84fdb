use Rattle.std.proofs.Common.{rules, ◌≡◌, None}
use Rattle.std.specs.BTreeMap.{get_by_text}
use Rattle.std.specs.String.{string_bytes}
use Rattle.exif_rename.proofs.GroupSteps.{leader_more}
use Rattle.exif_rename.proofs.grouping.leader_of.Goals as goal

pub returns-clause-more : goal.returns-clause-more
returns-clause-more c =
    let none : get_by_text c.args.first.now c.args.stem.now ≡ None = search rules in
    let same : string_bytes c.in_ok-from_str.field-0 ≡ c.args.stem.now = search rules in
    leader_more c.args.first.now c.insert.new.self c.in_ok-from_str.field-0 c.args.stem.now c.args.index same none c.in_ok-insert.ensures.updates
