use Rattle.std.proofs.Common.{rules, not}
use Rattle.std.proofs.lemmas.Fn.{filter_same}
use Rattle.exif_types.specs.Lookup.{is_named}
use Rattle.exif_types.specs.declared.field.Field.{Field}
use Rattle.exif_edit.proofs.remove.drop_named.Goals as goal

pub returns : goal.returns
returns c =
    filter_same _ (λ (f : Field). not (is_named c.args.tag c.args.ifd_num f)) _
    (λ x b q h. (search rules, search rules)) _ _ c.retain.ensures.filtered
