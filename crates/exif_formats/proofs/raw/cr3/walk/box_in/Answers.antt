use Rattle.std.proofs.Common.{rules, refl}
use Rattle.std.proofs.lemmas.Result.{err_from_is_err_and}
use Rattle.exif_formats.proofs.Cr3Loop.{box_absent, box_ended, box_fails, box_found, walk_on}
use Rattle.exif_formats.proofs.raw.cr3.walk.box_in.Goals as goal

pub returns-in_err-held-clause-refused : goal.returns-in_err-held-clause-refused
returns-in_err-held-clause-refused g c =
    let p = err_from_is_err_and c.from_residual.result c.from_residual.ensures.1 in
    rw (p.1, p.2)
    (box_fails c.args.name.now c.args.usertype.now c.in_err-held.field-0.0 c.loop.counter (g.R.Source.left c.args.source.now) (g.R.Source.left c.loop.source) c.loop-test.true
    c.loop.invariant.walked c.in_err-held.ensures.refused)

pub returns-in-Found-clause-found : goal.returns-in-Found-clause-found
returns-in-Found-clause-found g c =
    box_found c.args.name.now c.args.usertype.now c.in-Found.held c.loop.counter (g.R.Source.left c.args.source.now) (g.R.Source.left c.loop.source) (g.R.Source.left c.next_step.new.source)
    c.loop-test.true c.loop.invariant.walked (rw c.in-Found.is at c.in_ok-held.ensures.goes)

pub returns-in-End-clause-found : goal.returns-in-End-clause-found
returns-in-End-clause-found g c =
    box_absent c.args.name.now c.args.usertype.now c.loop.counter (g.R.Source.left c.args.source.now) (g.R.Source.left c.loop.source) (g.R.Source.left c.next_step.new.source) c.loop-test.true
    c.loop.invariant.walked (rw c.in-End.is at c.in_ok-held.ensures.goes)

pub loop-preserved : goal.loop-preserved
loop-preserved g c = record {
  walked = walk_on c.args.name.now c.args.usertype.now _ c.loop.counter _ (g.R.Source.left c.args.source.now) (g.R.Source.left c.loop.source) (g.R.Source.left c.next_step.new.source)
      c.loop-test.true refl c.loop.invariant.walked (rw c.in-Other.is at c.in_ok-held.ensures.goes);
  count = search rules;
  same = search rules;
}

pub returns-clause-found : goal.returns-clause-found
returns-clause-found g c =
    box_ended c.args.name.now c.args.usertype.now c.loop.counter (g.R.Source.left c.args.source.now) (g.R.Source.left c.loop.source) (g.R.Source.left c.loop.source) c.loop-test.false
    c.loop.invariant.walked
