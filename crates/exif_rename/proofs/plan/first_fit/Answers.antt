use Rattle.exif_rename.proofs.Searches.{FoundOr, fit_hit, fit_miss, fit_none}
use Rattle.std.proofs.Common.{◌<◌, ◌≤◌, ◌∙◌, arith, subst}
use Rattle.std.specs.BTreeSet.{contains_text}
use Rattle.exif_rename.proofs.plan.first_fit.Goals as goal

pub returns-then-branch-clause-answer : goal.returns-then-branch-clause-answer
returns-then-branch-clause-answer g c = λ names are.
    let within : c.loop-number.number < 100000 = omega arith in
    fit_hit (g.F.FileSystem.states c.args.files.now) (g.F.FileSystem.states c.loop-number.files) names (contains_text c.args.given.now) c.args.request.now c.args.start c.loop-number.number c.in_ok-all_fit_by.field-0
    within c.loop-number.invariant.same (c.loop-number.invariant.rest names are) (c.in_ok-all_fit_by.ensures.answer names are) c.if-branch.true

pub loop-number-preserved : goal.loop-number-preserved
loop-number-preserved g c =
    let within : c.loop-number.number < 100000 = omega arith in
    record {
      same = c.in_ok-all_fit_by.ensures.same ∙ c.loop-number.invariant.same;
      count = c.in_ok-all_fit_by.ensures.count ∙ c.loop-number.invariant.count;
      rest = λ names are.
          fit_miss (g.F.FileSystem.states c.args.files.now) (g.F.FileSystem.states c.loop-number.files) names (contains_text c.args.given.now) c.args.request.now c.args.start c.loop-number.number
          c.in_ok-all_fit_by.field-0 within c.loop-number.invariant.same (c.loop-number.invariant.rest names are) (c.in_ok-all_fit_by.ensures.answer names are) c.if-branch.false;
    }

pub returns-clause-answer : goal.returns-clause-answer
returns-clause-answer g c = λ names are.
    let all : 100000 ≤ c.loop-number.number = omega arith in
    fit_none (g.F.FileSystem.states c.args.files.now) names (contains_text c.args.given.now) c.args.request.now c.args.start c.loop-number.number all (c.loop-number.invariant.rest names are)

pub returns-in-Some-clause-answer : goal.returns-in-Some-clause-answer
returns-in-Some-clause-answer g c = λ names are.
    subst (FoundOr (g.F.FileSystem.states c.args.files.now) names (contains_text c.args.given.now) c.args.request.now c.args.start) c.in-Some.is (c.in_ok-own.ensures.answer names are)

pub loop-number-init : goal.loop-number-init
loop-number-init g c = record {
  same = c.in_ok-own.ensures.same;
  count = c.in_ok-own.ensures.count;
  rest = λ names are.
      subst (FoundOr (g.F.FileSystem.states c.args.files.now) names (contains_text c.args.given.now) c.args.request.now c.args.start) c.in_default.is (c.in_ok-own.ensures.answer names are);
}
