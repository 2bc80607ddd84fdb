use Rattle.std.proofs.Common.{◌≤◌, ◌-◌, rules, arith, refl}
use Rattle.std.proofs.lemmas.Result.{err_from_is_err_and}
use Rattle.exif_segments.proofs.WebpChunks.{webp_passed, webp_counted, webp_located, webp_fails, webp_collects, webp_used_up}
use Rattle.exif_segments.proofs.webp.locate.Goals as goal

pub returns-in_err-payload-clause-refused : goal.returns-in_err-payload-clause-refused
returns-in_err-payload-clause-refused g c =
    let p = err_from_is_err_and c.from_residual-in_err-payload.result c.from_residual-in_err-payload.ensures.1 in
    rw (p.1, p.2) (webp_fails _ (g.R.Source.left c.args.source.now) (g.R.Source.left c.loop-space.source) c.loop-space.space c.loop-space.invariant.passed c.in_err-payload.ensures.refused)

pub returns-clause-refused : goal.returns-clause-refused
returns-clause-refused g c = webp_used_up _ _ c.loop-space.space (omega arith) c.loop-space.invariant.passed

pub loop-space-preserved : goal.loop-space-preserved
loop-space-preserved g c = record {
  passed = webp_passed _ _ _ c.loop-space.space c.in-Other.rest c.loop-space.invariant.passed (rw c.in-Other.is at c.in_ok-payload.ensures.chunk);
  counted = webp_counted _ _ _ c.in_ok-body.body c.loop-space.space c.in-Other.rest c.loop-space.invariant.counted (rw c.in-Other.is at c.in_ok-payload.ensures.chunk);
  fewer = (
      let left : c.in-Other.rest ≤ c.loop-space.space - 8 = rw c.in-Other.is at c.in_ok-payload.ensures.fewer in
      let least : c.loop-space.space ≤ c.in_ok-body.body = c.loop-space.invariant.fewer in omega arith
      );
  count = search rules;
  same = search rules;
}

pub returns-clause-named : goal.returns-clause-named
returns-clause-named g c = (4, omega arith, refl)

pub returns-in_err-payload-clause-memory : goal.returns-in_err-payload-clause-memory
returns-in_err-payload-clause-memory g c =
    let p = err_from_is_err_and c.from_residual-in_err-payload.result c.from_residual-in_err-payload.ensures.1 in
    rw (p.1, p.2) (λ h. webp_collects (g.R.Source.left c.args.source.now) (g.R.Source.left c.loop-space.source) c.loop-space.space c.loop-space.invariant.passed (c.in_err-payload.ensures.memory h))

pub returns-in-Exif-clause-found : goal.returns-in-Exif-clause-found
returns-in-Exif-clause-found g c =
    webp_located c.in-Exif.payload.items _ _ _ c.in_ok-body.body c.loop-space.space c.loop-space.invariant.fewer c.loop-space.invariant.passed c.loop-space.invariant.counted
    (rw c.in-Exif.is at c.in_ok-payload.ensures.chunk)
