use Rattle.std.proofs.Common.{◌≡◌, ◌-◌, ◌<◌, ◌≤◌, ◌∙◌, suc, length, arith, sym}
use Rattle.exif_geotag.proofs.AtSteps.{at_between, at_last, at_none}
use Rattle.exif_geotag.proofs.search.fix_at.Goals as goal

pub returns-then-next-eq0 : goal.returns-then-next-eq0
returns-then-next-eq0 c =
    sym (at_none c.args.max_gap c.args.time c.reached-next.result c.args.points.now (omega arith) c.reached-next.ensures)

pub returns-then-next-points : goal.returns-then-next-points
returns-then-next-points c =
    let n = c.reached-next.result in
    let some : n ≡ suc (n - 1) = omega arith in
    let within : n < length c.args.points.now = omega arith in
    c.fix_before.ensures ∙ sym (at_between c.args.max_gap c.args.time n (n - 1) c.args.points.now _ _ some c.reached-next.ensures within)

pub returns-else-next-points : goal.returns-else-next-points
returns-else-next-points c =
    let n = c.reached-next.result in
    let some : n ≡ suc (n - 1) = omega arith in
    let past : length c.args.points.now ≤ n = omega arith in
    c.fix_at_last.ensures ∙ sym (at_last c.args.max_gap c.args.time n (n - 1) c.args.points.now _ some c.reached-next.ensures past)
