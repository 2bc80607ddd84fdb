use Rattle.std.proofs.Common.{sym, ◌∙◌}
use Rattle.exif_locations.proofs.XmpTokenSteps.{content_token, tag_token}
use Rattle.exif_geotag.proofs.StepSteps.{goes_on, goes_within}
use Rattle.exif_geotag.proofs.step.next_step.Goals as goal

pub tag_step-requires : goal.tag_step-requires
tag_step-requires c =
    (tag_token c.args.input.now c.in-Ok.token c.requires.input (sym c.tag_token.ensures ∙ c.in-Ok.is)).within

pub returns-in-Ok-clause-some : goal.returns-in-Ok-clause-some
returns-in-Ok-clause-some c =
    goes_on c.tag_step.result c.in-Ok.token.len c.tag_step.ensures.len
    (tag_token c.args.input.now c.in-Ok.token c.requires.input (sym c.tag_token.ensures ∙ c.in-Ok.is)).some

pub returns-in-Ok-clause-within : goal.returns-in-Ok-clause-within
returns-in-Ok-clause-within c =
    goes_within c.tag_step.result c.in-Ok.token.len _ c.tag_step.ensures.len
    (tag_token c.args.input.now c.in-Ok.token c.requires.input (sym c.tag_token.ensures ∙ c.in-Ok.is)).within

pub content_step-requires-clause-some : goal.content_step-requires-clause-some
content_step-requires-clause-some c =
    (content_token c.args.input.now c.in-Ok-content_token.token c.requires.input (sym c.content_token.ensures ∙ c.in-Ok-content_token.is)).some

pub content_step-requires-clause-within : goal.content_step-requires-clause-within
content_step-requires-clause-within c =
    (content_token c.args.input.now c.in-Ok-content_token.token c.requires.input (sym c.content_token.ensures ∙ c.in-Ok-content_token.is)).within

pub returns-in-Ok-content_token-clause-some : goal.returns-in-Ok-content_token-clause-some
returns-in-Ok-content_token-clause-some c =
    goes_on c.content_step.result c.in-Ok-content_token.token.len c.content_step.ensures.len
    (content_token c.args.input.now c.in-Ok-content_token.token c.requires.input (sym c.content_token.ensures ∙ c.in-Ok-content_token.is)).some

pub returns-in-Ok-content_token-clause-within : goal.returns-in-Ok-content_token-clause-within
returns-in-Ok-content_token-clause-within c =
    goes_within c.content_step.result c.in-Ok-content_token.token.len _ c.content_step.ensures.len
    (content_token c.args.input.now c.in-Ok-content_token.token c.requires.input (sym c.content_token.ensures ∙ c.in-Ok-content_token.is)).within
