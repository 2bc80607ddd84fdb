use Rattle.exif_rename.proofs.Begun.{none_below, none_more, open_here}
use Rattle.exif_rename.specs.RenameRequests.{candidate}
use Rattle.std.proofs.Common.{◌≡◌, ◌++◌, ◌≤◌, ◌∙◌, true, false, arith, rules}
use Rattle.std.specs.BTreeSet.{contains_text}
use Rattle.std.specs.String.{string_bytes}
use Rattle.exif_rename.proofs.starts.first_open.Goals as goal

pub loop-number-preserved : goal.loop-number-preserved
loop-number-preserved g c =
    let path : c.as_str-in-loop-number-3.result.now ≡ candidate (string_bytes c.args.series.now.base) c.loop-number.number ++ string_bytes c.args.series.now.ending = search rules in
    let off : c.in_ok-is_open.field-0 ≡ false = search rules in
    record {
      same = c.in_ok-is_open.ensures.same ∙ c.loop-number.invariant.same;
      count = c.in_ok-is_open.ensures.count ∙ c.loop-number.invariant.count;
      none = none_more (g.F.FileSystem.states c.args.files.now) (g.F.FileSystem.states c.loop-number.files) (contains_text c.args.given.now) (string_bytes c.args.series.now.base) (string_bytes c.args.series.now.ending) c.args.from c.loop-number.number c.as_str-in-loop-number-3.result.now c.in_ok-is_open.field-0
          path off c.loop-number.invariant.same c.loop-number.invariant.none c.in_ok-is_open.ensures.answer;
    }

pub returns-clause-below : goal.returns-clause-below
returns-clause-below g c =
    let all : 100000 ≤ c.loop-number.number = omega arith in
    none_below (g.F.FileSystem.states c.args.files.now) (contains_text c.args.given.now) (string_bytes c.args.series.now.base) (string_bytes c.args.series.now.ending) c.args.from c.loop-number.number 100000 all c.loop-number.invariant.none

pub returns-then-branch-clause-open : goal.returns-then-branch-clause-open
returns-then-branch-clause-open g c = λ lt.
    let path : c.as_str-in-loop-number-3.result.now ≡ candidate (string_bytes c.args.series.now.base) c.loop-number.number ++ string_bytes c.args.series.now.ending = search rules in
    let on_ : c.in_ok-is_open.field-0 ≡ true = search rules in
    open_here (g.F.FileSystem.states c.args.files.now) (g.F.FileSystem.states c.loop-number.files) (contains_text c.args.given.now) (string_bytes c.args.series.now.base) (string_bytes c.args.series.now.ending)
    c.loop-number.number c.as_str-in-loop-number-3.result.now c.in_ok-is_open.field-0 path on_ c.loop-number.invariant.same c.in_ok-is_open.ensures.answer
