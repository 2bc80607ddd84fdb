use Rattle.std.proofs.Common.{sym, ◌∙◌}
use Rattle.exif_locations.proofs.XmpStepSteps.{content_moves, tag_moves}
use Rattle.exif_locations.proofs.xmp.step.next_step.Goals as goal

pub returns-then-state-clause-some : goal.returns-then-state-clause-some
returns-then-state-clause-some c =
    (tag_moves c.args.input.now c.in_ok-token.token c.args.state.depth c.tag_step.result c.requires.input (sym c.tag_token.ensures ∙ c.in_ok-token.was) c.tag_step.ensures).0

pub returns-then-state-clause-within : goal.returns-then-state-clause-within
returns-then-state-clause-within c =
    (tag_moves c.args.input.now c.in_ok-token.token c.args.state.depth c.tag_step.result c.requires.input (sym c.tag_token.ensures ∙ c.in_ok-token.was) c.tag_step.ensures).1

pub returns-clause-some : goal.returns-clause-some
returns-clause-some c =
    (content_moves c.args.input.now c.in_ok-token-2.token c.args.state.depth c.content_step.result c.requires.input (sym c.content_token.ensures ∙ c.in_ok-token-2.was) c.content_step.ensures).0

pub returns-clause-within : goal.returns-clause-within
returns-clause-within c =
    (content_moves c.args.input.now c.in_ok-token-2.token c.args.state.depth c.content_step.result c.requires.input (sym c.content_token.ensures ∙ c.in_ok-token-2.was) c.content_step.ensures).1
