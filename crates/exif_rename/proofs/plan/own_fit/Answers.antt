use Rattle.exif_rename.proofs.Searches.{own_hit, own_miss, own_none}
use Rattle.std.proofs.Common.{◌≡◌, ◌∙◌, Some, arith, refl, sym}
use Rattle.std.specs.BTreeSet.{contains_text}
use Rattle.exif_rename.proofs.plan.own_fit.Goals as goal

pub returns-in_default-clause-answer : goal.returns-in_default-clause-answer
returns-in_default-clause-answer g c = λ names are.
    own_none (g.F.FileSystem.states c.args.files.now) names (contains_text c.args.given.now) c.args.request.now c.args.start c.own_number.result are c.own_number.ensures c.requires
    (λ k lt e. c.in_default.not-Some k e)

pub returns-then-own-start-clause-answer : goal.returns-then-own-start-clause-answer
returns-then-own-start-clause-answer g c = λ names are.
    own_none (g.F.FileSystem.states c.args.files.now) names (contains_text c.args.given.now) c.args.request.now c.args.start c.own_number.result are c.own_number.ensures c.requires
    (λ k lt e. let both : Some c.in-Some.own ≡ Some k = sym c.in-Some.is ∙ e in let one : c.in-Some.own ≡ k = cc in absurd (omega arith))

pub returns-then-branch-clause-answer : goal.returns-then-branch-clause-answer
returns-then-branch-clause-answer g c = λ names are.
    own_hit (g.F.FileSystem.states c.args.files.now) (g.F.FileSystem.states c.args.files.now) names (contains_text c.args.given.now) c.args.request.now c.args.start c.in-Some.own c.in_ok-all_fit_by.field-0
    are c.in-Some.ensures c.requires (omega arith) refl (c.in_ok-all_fit_by.ensures.answer names are) c.if-branch.true

pub returns-clause-answer : goal.returns-clause-answer
returns-clause-answer g c = λ names are.
    own_miss (g.F.FileSystem.states c.args.files.now) (g.F.FileSystem.states c.args.files.now) names (contains_text c.args.given.now) c.args.request.now c.args.start c.in-Some.own c.in_ok-all_fit_by.field-0
    are c.in-Some.ensures c.requires refl (c.in_ok-all_fit_by.ensures.answer names are) c.if-branch.false
