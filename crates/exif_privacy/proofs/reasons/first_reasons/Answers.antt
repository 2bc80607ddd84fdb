use Rattle.std.proofs.Common.{ap, ◌∙◌}
use Rattle.exif_inventory.specs.declared.kind.Kind.TheVariants as kind
use Rattle.exif_privacy.specs.Parts.{part_reasons}
use Rattle.exif_privacy.proofs.FirstSteps.{first_joined}
use Rattle.exif_privacy.proofs.reasons.first_reasons.Goals as goal

pub returns : goal.returns
returns c =
    first_joined c.args.unread c.args.file.now c.args.parts.now _ _ c.joined_len-joined.ensures.value c.if-joined-eq0.false
    (c.in_ok-whys-2.ensures ∙ ap (part_reasons c.args.unread kind.Xmp) (c.as_slice.ensures.value ∙ c.in_ok-packet.ensures.value))
