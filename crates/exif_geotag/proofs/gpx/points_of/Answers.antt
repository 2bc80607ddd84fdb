use Rattle.std.proofs.Common.{◌≡◌, ◌+◌, ◌-◌, ◌<◌, ◌≤◌, Ok, Err, length, drop, length-drop, ap, sym, ◌∙◌, arith}
use Rattle.std.proofs.lemmas.List.{take_rest}
use Rattle.exif_geotag.specs.Read.{walked}
use Rattle.exif_geotag.specs.Steps.{step_at}
use Rattle.exif_geotag.specs.Walks.{refused_at, skipped_of}
use Rattle.exif_geotag.proofs.WalkSteps.{from_here, skipped_few, walk_end, walk_next, walk_refused}
use Rattle.exif_geotag.proofs.gpx.points_of.Goals as goal

pub returns-in-Err : goal.returns-in-Err
returns-in-Err c =
    c.walked.ensures ∙ ap (walked c.loop-at.points.kept.items c.loop-at.points.skipped)
    (c.refused_at.ensures ∙ ap (λ rest. refused_at c.loop-at.state rest c.in-Err.error) (take_rest c.args.gpx.now c.loop-at.at))
    ∙ sym (walk_refused c.args.gpx.now c.loop-at.at c.loop-at.state c.in-Err.error c.loop-at.points.kept.items c.loop-at.points.skipped _ c.loop-at-test.true
    (from_here c.args.gpx.now c.loop-at.at c.loop-at.state (Err c.in-Err.error) (sym c.next_step.ensures.answer ∙ c.in-Err.is)) c.loop-at.invariant.rest)

pub loop-at-preserved : goal.loop-at-preserved
loop-at-preserved c =
    let g = c.args.gpx.now in
    let at = c.loop-at.at in
    let s = c.loop-at.state in
    let t = c.in-Ok.next in
    let e : step_at s (drop at g) ≡ Ok t = from_here g at s (Ok t) (sym c.next_step.ensures.answer ∙ c.in-Ok.is) in
    let some : 0 < t.len = c.in-Ok.ensures.some in
    let within : t.len ≤ length (drop at g) = rw (take_rest g at) at c.in-Ok.ensures.within in
    let left : length (drop at g) ≡ length g - at = length-drop at g in
    let few : skipped_of t.found ≤ 1 = skipped_few t.found in
    let more : c.add.new.points.skipped ≡ c.loop-at.points.skipped + skipped_of t.found = c.in_ok-add.ensures.skipped in
    let deep : t.state.depth ≤ s.depth + 1 = c.in-Ok.ensures.depth in
    let nested : t.state.inside ≤ s.inside + 1 = c.in-Ok.ensures.inside in
    record {
      rest = walk_next g at s t c.loop-at.points.kept.items c.add.new.points.kept.items c.loop-at.points.skipped c.add.new.points.skipped _
          c.loop-at-test.true some e c.in_ok-add.ensures.kept c.in_ok-add.ensures.skipped c.loop-at.invariant.rest;
      within = omega arith;
      skipped = omega arith;
      depth = omega arith;
      inside = omega arith;
    }

pub returns : goal.returns
returns c =
    c.walked-2.ensures ∙ ap (walked c.loop-at.points.kept.items c.loop-at.points.skipped) c.ended_at.ensures
    ∙ sym (walk_end c.args.gpx.now c.loop-at.at c.loop-at.state c.loop-at.points.kept.items c.loop-at.points.skipped _ c.loop-at-test.false
    c.loop-at.invariant.rest)
