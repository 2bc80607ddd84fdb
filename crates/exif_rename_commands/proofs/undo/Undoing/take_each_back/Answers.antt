use Rattle.std.proofs.Common.{◌∙◌, [], ◌∷◌, ap, arith, refl, rules}
use Rattle.std.proofs.lemmas.List.{length_push}
use Rattle.exif_decisions.specs.Tallies.{counted}
use Rattle.exif_inputs.specs.Pending.{with_counts}
use Rattle.exif_rename_commands.proofs.undo.Undoing.take_each_back.Goals as goal

pub loop-step-init : goal.loop-step-init
loop-step-init g c = record { counted = ([], refl, refl); same = refl; folders = λ dry. refl }

pub loop-step-preserved : goal.loop-step-preserved
loop-step-preserved g c =
    let before = c.loop-step.invariant in
    let outcome = c.in_ok-outcome.outcome in
    record {
      counted = (
        outcome ∷ before.counted.0,
        (let longer = length_push c.loop-step.yielded c.in-Some.step in omega (arith, longer, before.counted.1)),
        c.count.ensures.pending ∙ ap (λ p. with_counts (counted outcome p.counts) p) (c.in_ok-outcome.ensures.pending ∙ before.counted.2),
      );
      same = c.in_ok-outcome.ensures.same ∙ before.same;
      folders = λ dry. search rules;
    }
