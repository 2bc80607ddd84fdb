use Rattle.std.proofs.Common.{None}
use Rattle.std.proofs.lemmas.Map.Text.{btree_map_updates_text}
use Rattle.exif_catalog.proofs.known.forget.Goals as goal

pub returns : goal.returns
returns c = λ q.
    btree_map_updates_text c.args.path.now c.args.rows.now c.remove.new.self None c.remove.ensures.updates q
