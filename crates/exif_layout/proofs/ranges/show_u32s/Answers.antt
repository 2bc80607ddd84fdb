use Rattle.std.proofs.Common.{rules}
use Rattle.std.proofs.lemmas.Grind.{get_or_default_zero}
use Rattle.exif_layout.proofs.ranges.show_u32s.Goals as goal

pub returns : goal.returns
returns c i d h = let fits = c.type_inv.items i in rw (get_or_default_zero c.args.items.now i d h) (search rules)
