use Rattle.std.proofs.Common.{ap, sym, ◌∙◌}
use Rattle.exif_inventory.specs.JpegKinds.{app_kind}
use Rattle.exif_inventory.proofs.jpeg.app_kind.Goals as goal

pub returns-in-237-clause-value : goal.returns-in-237-clause-value
returns-in-237-clause-value c = c.named-in-237.ensures.value ∙ sym (ap (λ code. app_kind code c.args.content.now) c.in-237.is)
