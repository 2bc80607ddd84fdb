use Rattle.std.proofs.Common.{refl, sym, ◌∙◌, arith}
use Rattle.exif_base.specs.Orders.{number_of}
use Rattle.exif_grow.proofs.DirectorySteps.{none_at_zero, none_cut, some_whole}
use Rattle.exif_grow.proofs.directories.directory_at.Goals.{then-offset-eq0-via-then-offset-eq0, then-offset-eq0-via-else-offset-eq0+then-bytes-offset}
use Rattle.exif_grow.proofs.directories.directory_at.Goals as goal

pub returns-then-offset-eq0-clause-value : goal.returns-then-offset-eq0-clause-value
returns-then-offset-eq0-clause-value c = elim c.then-offset-eq0.branch [
  | then-offset-eq0-via-then-offset-eq0 w ↦
      none_at_zero (number_of c.args.order) c.args.bytes.now c.args.slot
      (sym c.number32-offset.ensures ∙ w.if-offset-eq0.true)
  | then-offset-eq0-via-else-offset-eq0+then-bytes-offset w ↦
      none_cut (number_of c.args.order) c.args.bytes.now c.args.slot c.number32-offset.result _
      c.number32-offset.ensures refl (omega (arith, w.if-bytes-offset.true))
]

pub returns-then-bytes-offset-2-clause-value : goal.returns-then-bytes-offset-2-clause-value
returns-then-bytes-offset-2-clause-value c =
    none_cut (number_of c.args.order) c.args.bytes.now c.args.slot c.number32-offset.result
    c.number16-count.result c.number32-offset.ensures c.number16-count.ensures
    (omega (arith, c.if-bytes-offset-2.true))

pub returns-clause-value : goal.returns-clause-value
returns-clause-value c =
    some_whole (number_of c.args.order) c.args.bytes.now c.args.slot c.number32-offset.result
    c.number16-count.result c.number32-offset.ensures c.number16-count.ensures
    c.if-offset-eq0.false (omega (arith, c.if-bytes-offset-2.false))
