use Rattle.std.proofs.Common.{◌≡◌, Some, None, length, rules, subst}
use Rattle.exif_rename_commands.specs.Same.{IsStep}
use Rattle.exif_rename_commands.proofs.Comparing.{answer_after, same_after, same_question}
use Rattle.exif_rename_commands.proofs.same.compare_blocks.Goals as goal

pub loop-init : goal.loop-init
loop-init g c = λ same. same_question (g.A.Source.left c.args.a.now) (g.B.Source.left c.args.b.now)

pub loop-preserved : goal.loop-preserved
loop-preserved g c = λ same.
    let one_length : length c.loop.left ≡ length c.loop.right = search rules in
    let a = g.A.Source.left c.loop.a in
    let b = g.B.Source.left c.loop.b in
    let left = g.A.Source.left c.compare_next.new.a in
    let right = g.B.Source.left c.compare_next.new.b in
    let step : IsStep None a b left right = subst (λ known. IsStep known a b left right) c.in_default.is (c.in_ok-same.ensures one_length) in
    same_after (g.A.Source.left c.args.a.now) (g.B.Source.left c.args.b.now) a b left right (c.loop.invariant same) step

pub returns-in-Some : goal.returns-in-Some
returns-in-Some g c = λ same.
    let one_length : length c.loop.left ≡ length c.loop.right = search rules in
    let a = g.A.Source.left c.loop.a in
    let b = g.B.Source.left c.loop.b in
    let left = g.A.Source.left c.compare_next.new.a in
    let right = g.B.Source.left c.compare_next.new.b in
    let step : IsStep (Some c.in-Some.same) a b left right = subst (λ known. IsStep known a b left right) c.in-Some.is (c.in_ok-same.ensures one_length) in
    answer_after (g.A.Source.left c.args.a.now) (g.B.Source.left c.args.b.now) a b c.in-Some.same (c.loop.invariant same) step
