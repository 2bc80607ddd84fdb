use Rattle.std.proofs.Common.{◌∙◌}
use Rattle.exif_arguments.specs.Given.{text_in}
use Rattle.exif_arguments.proofs.RequestLemmas.{name_if-map}
use Rattle.exif_arguments.proofs.given.text_of.Goals as goal

pub returns : goal.returns
unfolding text_in
returns c = name_if-map c.get_str.result ∙ c.get_str.ensures
