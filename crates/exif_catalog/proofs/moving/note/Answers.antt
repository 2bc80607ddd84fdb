use Rattle.std.proofs.Common.{rules, ◌≡◌, Some}
use Rattle.std.specs.BTreeMap.{get_by_text}
use Rattle.std.specs.String.{string_bytes}
use Rattle.exif_catalog.proofs.Moves.{noted_more}
use Rattle.exif_catalog.specs.Moves.{held, joined}
use Rattle.exif_catalog.proofs.moving.note.Goals as goal

pub returns : goal.returns
returns c =
    let same : string_bytes c.in_ok-from_str.field-0 ≡ c.args.hash.now = search rules in
    let new : held (Some c.joined-holder.result) ≡ joined (held (get_by_text c.args.holders.now c.args.hash.now)) c.args.path.now = search rules in
    noted_more c.args.holders.now c.insert.new.self c.in_ok-from_str.field-0 c.args.hash.now c.args.path.now c.joined-holder.result same new c.in_ok-insert.ensures.updates
