use Rattle.exif_files.proofs.Runs.{if_ok}
use Rattle.exif_rename.proofs.Kept.{kept_number, no_number, other_number}
use Rattle.std.proofs.Common.{◌≡◌, None, Some, refl, rules}
use Rattle.std.specs.BTreeSet.{contains_text}
use Rattle.exif_rename.proofs.plan.choose.Goals as goal

pub returns-in_default-clause-answer : goal.returns-in_default-clause-answer
returns-in_default-clause-answer g c =
    let a = g.F.FileSystem.states c.args.files.now in
    let none : c.in_ok-own.field-0 ≡ None = search rules in
    if_ok _ _ c.first_fit.result c.first_fit.ensures.answer (λ found finds names are.
    no_number a a names (contains_text c.args.given.now) c.args.request.now c.args.start c.in_ok-own.field-0 found refl c.in_ok-own.ensures none (finds names are))

pub returns-then-branch-clause-answer : goal.returns-then-branch-clause-answer
returns-then-branch-clause-answer g c = λ names are.
    let a = g.F.FileSystem.states c.args.files.now in
    let some : c.in_ok-own.field-0 ≡ Some c.in-Some.own = search rules in
    kept_number a a names (contains_text c.args.given.now) c.args.request.now c.args.start c.in-Some.own c.in_ok-own.field-0 c.in_ok-all_fit_by.field-0 refl c.in_ok-own.ensures some
    c.if-branch.true (c.in_ok-all_fit_by.ensures.answer names are)

pub returns-clause-answer : goal.returns-clause-answer
returns-clause-answer g c =
    let a = g.F.FileSystem.states c.args.files.now in
    let some : c.in_ok-own.field-0 ≡ Some c.in-Some.own = search rules in
    if_ok _ _ c.first_fit-2.result c.first_fit-2.ensures.answer (λ found finds names are.
    other_number a a _ names (contains_text c.args.given.now) c.args.request.now c.args.start c.in-Some.own c.in_ok-own.field-0 found c.in_ok-all_fit_by.field-0 refl c.in_ok-all_fit_by.ensures.same
    c.in_ok-own.ensures some c.if-branch.false (c.in_ok-all_fit_by.ensures.answer names are) (finds names are))
