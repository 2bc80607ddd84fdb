use Rattle.exif_rename.proofs.Plans.{among_next, fits_not, fits_more, fits_all}
use Rattle.std.proofs.Common.{◌≡◌, ◌++◌, ◌<◌, ◌≤◌, ◌∙◌, true, false, length, map, arith, rules, ap, ◌∷◌, []}
use Rattle.std.specs.String.{string_bytes}
use Rattle.exif_rename.proofs.plan.all_fit.Goals as goal

pub returns-then-not-branch-clause-answer : goal.returns-then-not-branch-clause-answer
returns-then-not-branch-clause-answer g c = λ names are.
    let path = c.as_str-in-loop-file.result.now in
    let within : c.loop-file.file-index < length c.args.request_files.now = omega arith in
    let e : path ≡ c.args.name.now ++ string_bytes c.file-item.result.ending = search rules in
    let off : c.in_ok-can_have.field-0 ≡ false = search rules in
    let slice : map string_bytes c.as_slice.result.now ≡ map string_bytes c.loop-file.paths.items = ap (map string_bytes) c.as_slice.ensures.value in
    fits_not (g.F.FileSystem.states c.args.files.now) (g.F.FileSystem.states c.loop-file.files) c.args.name.now c.args.request_files.now c.loop-file.file-index c.file-item.result path
    c.as_str-in-loop-file-2.result.now names (map string_bytes c.loop-file.paths.items) (map string_bytes c.as_slice.result.now) _ c.in_ok-can_have.field-0
    within c.file-item.is e c.as_str-in-loop-file-2.ensures.value slice (are path) (c.loop-file.invariant.among names path) c.loop-file.invariant.same (c.loop-file.invariant.rest names are)
    c.in_ok-can_have.ensures.answer off

pub loop-file-preserved : goal.loop-file-preserved
loop-file-preserved g c =
    let path = c.as_str-in-loop-file.result.now in
    let within : c.loop-file.file-index < length c.args.request_files.now = omega arith in
    let e : path ≡ c.args.name.now ++ string_bytes c.file-item.result.ending = search rules in
    let e' : string_bytes c.in_ok-path.path ≡ c.args.name.now ++ string_bytes c.file-item.result.ending = search rules in
    let on_ : c.in_ok-can_have.field-0 ≡ true = search rules in
    let more : c.push.new.self.items ≡ c.loop-file.paths.items ++ c.in_ok-path.path ∷ [] = search rules in
    let slice : map string_bytes c.as_slice.result.now ≡ map string_bytes c.loop-file.paths.items = ap (map string_bytes) c.as_slice.ensures.value in
    record {
      same = c.in_ok-can_have.ensures.same ∙ c.loop-file.invariant.same;
      count = c.in_ok-can_have.ensures.count ∙ c.loop-file.invariant.count;
      among = λ names q. among_next string_bytes c.args.name.now c.args.request_files.now c.loop-file.file-index c.file-item.result c.in_ok-path.path c.loop-file.paths.items c.push.new.self.items names q
          within c.file-item.is e' more (c.loop-file.invariant.among names q);
      rest = λ names are.
          fits_more (g.F.FileSystem.states c.args.files.now) (g.F.FileSystem.states c.loop-file.files) c.args.name.now c.args.request_files.now c.loop-file.file-index c.file-item.result path
          c.as_str-in-loop-file-2.result.now names (map string_bytes c.loop-file.paths.items) (map string_bytes c.as_slice.result.now) _ c.in_ok-can_have.field-0
          within c.file-item.is e c.as_str-in-loop-file-2.ensures.value slice (are path) (c.loop-file.invariant.among names path) c.loop-file.invariant.same (c.loop-file.invariant.rest names are)
          c.in_ok-can_have.ensures.answer on_;
    }

pub returns-clause-answer : goal.returns-clause-answer
returns-clause-answer g c = λ names are.
    let all : length c.args.request_files.now ≤ c.loop-file.file-index = omega arith in
    fits_all (g.F.FileSystem.states c.args.files.now) names c.args.name.now c.args.request_files.now c.loop-file.file-index all (c.loop-file.invariant.rest names are)
