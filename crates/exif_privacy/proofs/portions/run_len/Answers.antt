use Rattle.std.proofs.Common.{◌≡◌, ap, sym, ◌∙◌, length, get_or, arith}
use Rattle.std.proofs.lemmas.List.{drop_all}
use Rattle.exif_inventory.specs.Walks.{none}
use Rattle.exif_privacy.specs.Portions.{full_len, run_len}
use Rattle.exif_privacy.proofs.PortionSteps.{run_ends, run_goes, run_lacks, run_stops, run_within}
use Rattle.exif_privacy.proofs.portions.run_len.Goals as goal

pub returns-then-at-full-clause-value : goal.returns-then-at-full-clause-value
returns-then-at-full-clause-value c =
    let full = c.number_of-full.ensures.value ∙ ap full_len c.data_of.ensures in
    sym (run_ends c.args.file.now c.args.first c.loop-n.n c.loop-n.at _ (c.if-at-full.true ∙ full)) ∙ c.loop-n.invariant.same

pub returns-then-not-goes_on-clause-value : goal.returns-then-not-goes_on-clause-value
returns-then-not-goes_on-clause-value c =
    let full = c.number_of-full.ensures.value ∙ ap full_len c.data_of.ensures in
    sym (run_stops c.args.file.now c.args.first c.loop-n.n c.loop-n.at c.loop-n.n c.args.parts.now _ c.loop-n-test.true
    (λ e. c.if-at-full.false (e ∙ sym full)) (sym c.goes_on.ensures ∙ c.if-not-goes_on.true))
    ∙ c.loop-n.invariant.same

pub loop-n-preserved : goal.loop-n-preserved
loop-n-preserved c =
    let full = c.number_of-full.ensures.value ∙ ap full_len c.data_of.ensures in
    let goes = sym c.goes_on.ensures ∙ c.if-not-goes_on.false in
    record {
      same = sym (run_goes c.args.file.now c.args.first c.loop-n.n c.loop-n.at c.loop-n.n c.args.parts.now _ c.loop-n-test.true (λ e. c.if-at-full.false (e ∙ sym full)) goes) ∙ c.loop-n.invariant.same;
      within = run_within c.args.file.now c.args.first c.loop-n.at c.number_of-full.result (get_or c.args.parts.now c.loop-n.n none.last) (c.requires.inside c.loop-n.n _ c.loop-n-test.true) full c.loop-n.invariant.within goes;
    }

pub returns-then-at-full-2-clause-value : goal.returns-then-at-full-2-clause-value
returns-then-at-full-2-clause-value c =
    let full = c.number_of-full.ensures.value ∙ ap full_len c.data_of.ensures in
    let all : length c.args.parts.now ≡ c.loop-n.n = omega arith in
    all ∙ (sym (run_ends c.args.file.now c.args.first c.loop-n.n c.loop-n.at _ (c.if-at-full-2.true ∙ full)) ∙ c.loop-n.invariant.same)

pub returns-else-at-full-2-clause-value : goal.returns-else-at-full-2-clause-value
returns-else-at-full-2-clause-value c =
    let full = c.number_of-full.ensures.value ∙ ap full_len c.data_of.ensures in
    sym (ap (run_len c.args.file.now c.args.first c.loop-n.n c.loop-n.at) (drop_all c.loop-n.n c.args.parts.now c.loop-n-test.false)
    ∙ run_lacks c.args.file.now c.args.first c.loop-n.n c.loop-n.at (λ e. c.if-at-full-2.false (e ∙ sym full)))
    ∙ c.loop-n.invariant.same
