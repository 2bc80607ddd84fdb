use Rattle.std.proofs.Common.{◌∙◌, ap}
use Rattle.exif_arguments.specs.Given.{texts}
use Rattle.exif_arguments.specs.Requests.{files_wrong}
use Rattle.exif_arguments.proofs.RequestLemmas.{files-wrong, has-condition}
use Rattle.exif_arguments.proofs.selection.mistake_of.Goals as goal

pub returns : goal.returns
returns c =
    c.files_mistake.ensures
    ∙ (files-wrong c.args.paths.now c.args.from_input c.is_any.result
    ∙ ap (files_wrong (texts c.args.paths.now) c.args.from_input) (c.is_any.ensures ∙ has-condition c.args.choice.now))
