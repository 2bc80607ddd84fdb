use Rattle.std.proofs.Common.{cond, codes, ap, sym, ◌∙◌}
use Rattle.exif_inventory.specs.JpegKinds.{named}
use Rattle.exif_inventory.specs.declared.kind.Kind.TheVariants as kind
use Rattle.exif_inventory.proofs.jpeg.xmp_kind.Goals as goal

pub returns-else-begins-clause-value : goal.returns-else-begins-clause-value
returns-else-begins-clause-value c =
    let other = named (codes "http://ns.adobe.com/xmp/extension/\0") kind.ExtendedXmp c.args.content.now in
    c.named.ensures.value ∙ sym (ap (λ b. cond b kind.Xmp other) (sym c.begins.ensures.value ∙ c.if-begins.false))
