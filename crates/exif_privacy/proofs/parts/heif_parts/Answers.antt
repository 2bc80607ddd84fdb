use Rattle.std.proofs.Common.{List, All, length, subst, sym}
use Rattle.exif_inventory.specs.Promises.{EndsIn}
use Rattle.exif_inventory.specs.declared.part.Part.{Part}
use Rattle.exif_privacy.proofs.HeifParts.{parts_end}
use Rattle.exif_privacy.proofs.parts.heif_parts.Goals as goal

pub returns-clause-inside : goal.returns-clause-inside
returns-clause-inside c =
    subst (λ (parts : List Part). All (EndsIn (length c.args.file.now)) parts)
    (sym c.in_ok-parts.ensures)
    (parts_end c.args.file.now c.in-Some.found.judged 0 c.in-Some.found.spans.items
    (length c.args.file.now)
    (rw c.in-Some.is at c.in_ok-found.ensures.ordered))
