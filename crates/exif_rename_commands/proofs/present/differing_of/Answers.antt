use Rattle.std.proofs.Common.{◌≡◌, ◌∙◌, [], drop, rules, sym}
use Rattle.std.proofs.lemmas.List.{drop_all}
use Rattle.exif_rename_commands.proofs.Differing.{empty, first_of_none, named_by_found, named_by_left}
use Rattle.exif_rename_commands.proofs.present.differing_of.Goals.{else-loop-presence-test, then-loop-presence-test+in_default}
use Rattle.exif_rename_commands.proofs.present.differing_of.Goals as goal

pub returns : goal.returns
returns c = elim c.loop-presence-test.branch [
  | else-loop-presence-test w ↦
      let none : drop c.loop-presence.presence-index c.args.found.items ≡ [] = search (rules, drop_all) in
      named_by_found _ _ c.loop-presence.left.rest.items (drop c.loop-presence.presence-index c.args.found.items) none c.loop-presence.invariant
  | then-loop-presence-test+in_default w ↦
      let short : c.loop-presence.left.rest.len ≡ 0 = first_of_none _ _ _ _ w.in_default.is w.next.ensures.cases in
      let none : c.loop-presence.left.rest.items ≡ [] = empty c.loop-presence.left.rest.items (sym c.loop-presence.left.rest.ok.0 ∙ short) in
      named_by_left _ _ c.loop-presence.left.rest.items (drop c.loop-presence.presence-index c.args.found.items) none c.loop-presence.invariant
]
