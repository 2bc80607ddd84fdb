use Rattle.std.proofs.Common.{◌≡◌, length}
use Rattle.exif_inventory_heif.specs.Spans.{only}
use Rattle.exif_inventory_heif.proofs.span.only.Given as goal

-- those that are left decide
abbrev pub invariant-loop-first : goal.invariant-loop-first
invariant-loop-first l = only l.wanted l.rest ≡ only l.wanted l.spans

abbrev pub decreases-loop-first : goal.decreases-loop-first
decreases-loop-first l = length l.rest
