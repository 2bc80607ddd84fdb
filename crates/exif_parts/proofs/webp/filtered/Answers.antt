use Rattle.std.proofs.Common.{◌-◌, [], ℕ, ap, drop, subst, sym, ◌∙◌}
use Rattle.std.proofs.lemmas.Result.{err_from_is_err_and}
use Rattle.exif_parts.specs.Webp.{filtered}
use Rattle.exif_parts.specs.WebpChunks.{whole_chunk}
use Rattle.exif_parts.proofs.Refused.{refuses_fails}
use Rattle.exif_parts.proofs.WebpSteps.{Runs, runs_on, runs_over, runs_refused}
use Rattle.exif_parts.proofs.webp.filtered.Goals as goal

pub returns-in_err-piece-clause-gives : goal.returns-in_err-piece-clause-gives
returns-in_err-piece-clause-gives c =
    let p = err_from_is_err_and c.from_residual.result c.from_residual.ensures.1 in
    let answer = filtered c.args.space c.args.remove c.args.put c.args.space c.args.body.now [] in
    rw (p.1, p.2) (refuses_fails _ (whole_chunk c.loop-left.left c.loop-left.rest.now) answer
    (λ r e. runs_refused c.args.remove c.args.put answer c.loop-left.left c.loop-left.rest.now c.loop-left.chunks.items r c.loop-left.invariant c.loop-left-test.true e)
    c.in_err-piece.ensures.piece)

pub loop-left-preserved : goal.loop-left-preserved
loop-left-preserved c =
    let answer = filtered c.args.space c.args.remove c.args.put c.args.space c.args.body.now [] in
    let rest = c.loop-left.rest.now in
    let left = c.loop-left.left in
    let piece = c.in_ok-piece.piece in
    subst (λ (k : ℕ). Runs c.args.remove c.args.put answer k c.split.result.1.now c.add_kept.new.out.items) (sym c.space_behind-behind.ensures)
    (runs_on c.args.remove c.args.put answer left rest c.loop-left.chunks.items piece c.split.result.1.now c.add_kept.new.out.items
    c.loop-left.invariant c.loop-left-test.true c.in_ok-piece.ensures.piece c.in_ok-piece.ensures.less
    (c.split.ensures.rest ∙ ap (λ n. drop n rest) (c.saturating_sub.ensures ∙ ap (λ n. left - n) c.space_behind-behind.ensures))
    c.in_ok-add_kept.ensures)

pub returns-clause-gives : goal.returns-clause-gives
returns-clause-gives c =
    runs_over c.args.remove c.args.put (filtered c.args.space c.args.remove c.args.put c.args.space c.args.body.now []) c.loop-left.left c.loop-left.rest.now c.loop-left.chunks.items
    c.loop-left.invariant c.loop-left-test.false
