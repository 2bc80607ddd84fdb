use Rattle.std.proofs.Common.{◌≡◌, ◌<◌, ◌≤◌, List, [], map, take, length, arith, sym, subst, refl, rules, Option}
use Rattle.std.proofs.lemmas.List.{length-map}
use Rattle.std.specs.String.{string_bytes}
use Rattle.exif_files.specs.declared.outcome.Status.{Status}
use Rattle.exif_files.proofs.Many.{SoFar, so_far_none, names_of, so_far_next, whole_next, whole_so_far, so_far_all, all_done, are_once, seen_more, seen_as}
use Rattle.exif_files.proofs.running.change_all.Goals as goal

pub loop-name-init : goal.loop-name-init
loop-name-init g c =
    let none : c.new-seen.result.keys ≡ [] = search rules in
    let P : List (Option Status) → Type 0 = λ rs. SoFar (g.E.Edit.answer c.args.edit.now) c.args.keeping.backup c.args.keeping.times (g.E.Edit.undone c.args.edit.now) (map string_bytes c.args.names.now) [] rs
    (g.F.FileSystem.states c.args.files.now) (g.F.FileSystem.states c.args.files.now) in
    record {
      seen = λ q. rw none refl;
      so_far = subst P (sym c.new-results.ensures.items) (so_far_none (g.E.Edit.answer c.args.edit.now) c.args.keeping.backup c.args.keeping.times (g.E.Edit.undone c.args.edit.now) (map string_bytes c.args.names.now) _);
      heard = omega arith;
    }

pub returns-in_err-change_next-clause-whole : goal.returns-in_err-change_next-clause-whole
returns-in_err-change_next-clause-whole g c =
    let within : c.loop-name.name-index < length c.args.names.now = omega arith in
    let at = names_of string_bytes c.args.names.now c.loop-name.name-index c.name-item.result c.as_str-name.result.now within c.name-item.is c.as_str-name.ensures.value in
    whole_next (g.E.Edit.answer c.args.edit.now) c.args.keeping.backup c.args.keeping.times (g.E.Edit.undone c.args.edit.now) _ _ _ c.as_str-name.result.now _ _ _ _ _ at.0
    (c.loop-name.invariant.seen c.as_str-name.result.now) c.loop-name.invariant.so_far c.in_err-change_next.ensures.whole c.in_err-change_next.ensures.same

pub loop-name-preserved : goal.loop-name-preserved
loop-name-preserved g c =
    let within : c.loop-name.name-index < length c.args.names.now = omega arith in
    let at = names_of string_bytes c.args.names.now c.loop-name.name-index c.name-item.result c.as_str-name.result.now within c.name-item.is c.as_str-name.ensures.value in
    record {
      seen = λ q. seen_as _ _ q _ at.1 (seen_more (take c.loop-name.name-index (map string_bytes c.args.names.now)) c.as_str-name.result.now q _ _ (c.loop-name.invariant.seen q) (c.in_ok-change_next.ensures.more q));
      so_far = so_far_next (g.E.Edit.answer c.args.edit.now) c.args.keeping.backup c.args.keeping.times (g.E.Edit.undone c.args.edit.now) _ _ _ _ c.as_str-name.result.now _ _ _ _ _ _ at.0 at.1
          (c.loop-name.invariant.seen c.as_str-name.result.now) c.loop-name.invariant.so_far c.in_ok-change_next.ensures.taken;
      heard = omega (arith, c.loop-name.invariant.heard, c.in_ok-change_next.ensures.heard);
    }

pub returns-clause-whole : goal.returns-clause-whole
returns-clause-whole g c =
    whole_so_far (g.E.Edit.answer c.args.edit.now) c.args.keeping.backup c.args.keeping.times (g.E.Edit.undone c.args.edit.now) _ _ _ _ _ c.loop-name.invariant.so_far

pub returns-clause-once : goal.returns-clause-once
returns-clause-once g c =
    let all : length (map string_bytes c.args.names.now) ≤ c.loop-name.name-index = omega (arith, length-map c.args.names.now string_bytes) in
    are_once (g.E.Edit.answer c.args.edit.now) c.args.keeping.backup c.args.keeping.times (g.E.Edit.undone c.args.edit.now) _ _ _ _
    (so_far_all (g.E.Edit.answer c.args.edit.now) c.args.keeping.backup c.args.keeping.times (g.E.Edit.undone c.args.edit.now) _ _ _ _ _ all c.loop-name.invariant.so_far)

pub returns-clause-done : goal.returns-clause-done
returns-clause-done g c =
    let all : length (map string_bytes c.args.names.now) ≤ c.loop-name.name-index = omega (arith, length-map c.args.names.now string_bytes) in
    all_done (g.E.Edit.answer c.args.edit.now) c.args.keeping.backup c.args.keeping.times (g.E.Edit.undone c.args.edit.now) _ _ _ _
    (so_far_all (g.E.Edit.answer c.args.edit.now) c.args.keeping.backup c.args.keeping.times (g.E.Edit.undone c.args.edit.now) _ _ _ _ _ all c.loop-name.invariant.so_far)
