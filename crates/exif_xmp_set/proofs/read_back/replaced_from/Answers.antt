use Rattle.std.proofs.Common.{◌≡◌, length, map, sym, ◌∙◌, arith}
use Rattle.std.proofs.lemmas.List.{length-map}
use Rattle.exif_xmp.specs.Properties.{property_view}
use Rattle.exif_xmp_set.proofs.Contents.{uneven}
use Rattle.exif_xmp_set.proofs.read_back.replaced_from.Goals as goal

pub returns-then-old-new : goal.returns-then-old-new
returns-then-old-new c =
    sym (uneven c.args.is_done c.args.namespace.now c.args.path.now c.args.text.now (map property_view c.args.old.now) (map property_view c.args.new.now)
    (λ e. let k : length c.args.old.now ≡ length c.args.new.now = sym (length-map c.args.old.now property_view) ∙ e ∙ length-map c.args.new.now property_view in omega (arith, k)))
