use Rattle.std.proofs.Common.{◌∙◌, arith, sym, true, false}
use Rattle.exif_layout.proofs.IfdCounts.{fault_empty, fault_over, fault_of_types}
use Rattle.exif_layout.proofs.ifd.Ifd.fault.Goals as goal

pub returns-then-tiff_count-eq0 : goal.returns-then-tiff_count-eq0
returns-then-tiff_count-eq0 c = fault_empty c.args.self.now c.tiff_count.result c.tiff_count.ensures c.if-tiff_count-eq0.true

pub returns-then-is_over : goal.returns-then-is_over
returns-then-is_over c = fault_over c.args.self.now c.tiff_count.result c.tiff_count.ensures (omega arith) (sym c.is_over.ensures ∙ c.if-is_over.true)

pub returns-then-has_unknown : goal.returns-then-has_unknown
returns-then-has_unknown c =
    fault_of_types c.args.self.now c.tiff_count.result true c.tiff_count.ensures (omega arith) (sym c.is_over.ensures ∙ c.if-is_over.false)
    (sym c.has_unknown.ensures ∙ c.if-has_unknown.true)

pub returns-else-has_unknown : goal.returns-else-has_unknown
returns-else-has_unknown c =
    fault_of_types c.args.self.now c.tiff_count.result false c.tiff_count.ensures (omega arith) (sym c.is_over.ensures ∙ c.if-is_over.false)
    (sym c.has_unknown.ensures ∙ c.if-has_unknown.false)
