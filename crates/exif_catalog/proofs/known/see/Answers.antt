use Rattle.std.proofs.Common.{rules, true, ◌≡◌, ◌∙◌, ap, Some, option_map, if◌then◌else◌}
use Rattle.std.proofs.lemmas.Map.Text.{btree_map_updates_text}
use Rattle.std.specs.BTreeMap.{get_by_text}
use Rattle.std.specs.Str.{bytes_eq}
use Rattle.exif_catalog.specs.Known.{seen}
use Rattle.exif_catalog.proofs.known.see.Goals as goal

pub returns-in-Some : goal.returns-in-Some
returns-in-Some c = λ q.
    let w = record c.in-Some.known.now { is_seen = true } in
    let n = c.get_mut.follows.lender w in
    let had : Some c.in-Some.known.now ≡ get_by_text c.args.rows.now c.args.path.now = c.in-Some.ensures.value in
    btree_map_updates_text c.args.path.now c.args.rows.now n (Some w) ((c.get_mut.follows.holds w).3 (search rules)) q
    ∙ ap (λ o. if bytes_eq c.args.path.now q then option_map seen o else get_by_text c.args.rows.now q) had
