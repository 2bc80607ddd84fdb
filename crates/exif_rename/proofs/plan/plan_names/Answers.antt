use Rattle.exif_rename.proofs.Begun.{closed_after, request_fits}
use Rattle.exif_rename.proofs.Plans.{FitIs, planned_more, planned_crowded}
use Rattle.exif_rename.specs.Planned.{with_paths}
use Rattle.exif_rename.specs.RenameRequests.{candidate, wanted_of}
use Rattle.std.proofs.Common.{◌≡◌, ◌<◌, ◌+◌, ◌++◌, ◌∷◌, [], ◌∙◌, Some, None, length, arith, rules, refl, subst}
use Rattle.std.specs.BTreeSet.{contains_text}
use Rattle.exif_rename.proofs.plan.plan_names.Goals as goal

pub returns-in_default-clause-crowded : goal.returns-in_default-clause-crowded
returns-in_default-clause-crowded g c =
    let before = g.F.FileSystem.states c.args.files.now in
    let far = c.loop-index.invariant.so_far in
    let request = c.index-requests-index.result in
    let within : c.loop-index.index < length c.args.requests.now = omega arith in
    let none : c.in_ok-number.field-0 ≡ None = search rules in
    let fits : FitIs before far.0 request c.in_ok-number.field-0 =
    request_fits before (g.F.FileSystem.states c.loop-index.files) (g.F.FileSystem.states c.find_start.new.files) (contains_text c.loop-index.given) c.loop-index.starts far.0 request c.in_ok-start.start c.in_ok-number.field-0
    c.loop-index.invariant.same (c.in_ok-start.ensures.same ∙ c.loop-index.invariant.same) c.loop-index.invariant.closed c.in_ok-start.ensures.start (c.in_ok-number.ensures.answer far.0 far.1) in
    planned_crowded before before c.args.requests.now far.0 c.loop-index.numbers.items c.loop-index.index request
    within c.index-requests-index.is c.loop-index.invariant.each refl far.2 (subst (FitIs before far.0 request) none fits)

pub loop-index-preserved : goal.loop-index-preserved
loop-index-preserved g c =
    let before = g.F.FileSystem.states c.args.files.now in
    let far = c.loop-index.invariant.so_far in
    let request = c.index-requests-index.result in
    let within : c.loop-index.index < length c.args.requests.now = omega arith in
    let some : c.in_ok-number.field-0 ≡ Some c.in-Some.number = search rules in
    let more : c.push.new.self.items ≡ c.loop-index.numbers.items ++ c.in-Some.number ∷ [] = search rules in
    let each : length c.push.new.self.items ≡ c.loop-index.index + 1 = search rules in
    let fits : FitIs before far.0 request c.in_ok-number.field-0 =
    request_fits before (g.F.FileSystem.states c.loop-index.files) (g.F.FileSystem.states c.find_start.new.files) (contains_text c.loop-index.given) c.loop-index.starts far.0 request c.in_ok-start.start c.in_ok-number.field-0
    c.loop-index.invariant.same (c.in_ok-start.ensures.same ∙ c.loop-index.invariant.same) c.loop-index.invariant.closed c.in_ok-start.ensures.start (c.in_ok-number.ensures.answer far.0 far.1) in
    record {
      same = c.in_ok-number.ensures.same ∙ c.in_ok-start.ensures.same ∙ c.loop-index.invariant.same;
      count = c.in_ok-number.ensures.count ∙ c.in_ok-start.ensures.count ∙ c.loop-index.invariant.count;
      closed = closed_after before (g.F.FileSystem.states c.loop-index.files) (contains_text c.loop-index.given) (contains_text c.give_paths.new.given) c.loop-index.starts c.find_start.new.starts
          (candidate (wanted_of request).base c.in-Some.number) (wanted_of request).files far.0 c.loop-index.invariant.same far.1 (c.in_ok-give_paths.ensures far.0 far.1)
          c.loop-index.invariant.closed c.in_ok-start.ensures.kept;
      each = each;
      so_far = (
        with_paths (candidate (wanted_of request).base c.in-Some.number) (wanted_of request).files far.0,
        c.in_ok-give_paths.ensures far.0 far.1,
        planned_more before before c.args.requests.now far.0 c.loop-index.numbers.items c.push.new.self.items c.loop-index.index request c.in-Some.number
            within c.index-requests-index.is more refl far.2 (subst (FitIs before far.0 request) some fits),
      );
    }
