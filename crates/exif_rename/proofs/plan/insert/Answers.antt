use Rattle.std.specs.String.{string_bytes}
use Rattle.std.proofs.lemmas.Map.Text.{btree_set_updates_text}
use Rattle.exif_rename.proofs.plan.insert.Goals as goal

pub returns : goal.returns
returns c = btree_set_updates_text (string_bytes c.args.path) c.args.given.now c.insert.new.self _ c.in_ok-insert.ensures.updates
