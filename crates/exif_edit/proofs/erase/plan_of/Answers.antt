use Rattle.std.proofs.Common.{List, ap, sym, ◌∙◌}
use Rattle.exif_edit_base.specs.Plans.{planned}
use Rattle.exif_edit_base.specs.Readings.{read_of}
use Rattle.exif_edit.specs.Erasing.{cleared, zeros_planned}
use Rattle.exif_types.specs.declared.field.Field.{Field}
use Rattle.exif_edit.proofs.erase.plan_of.Goals as goal

pub returns-then-unshared-clause-planned : goal.returns-then-unshared-clause-planned
unfolding planned
returns-then-unshared-clause-planned c = λ bytes.
    ap (λ b. zeros_planned b (read_of c.args.parsed) bytes c.args.zeros.patches.items)
    (sym c.if-unshared.true)

pub returns-clause-planned : goal.returns-clause-planned
unfolding planned
returns-clause-planned c = λ bytes.
    ap (λ (fields : List Field). cleared (record {
      little = c.args.parsed.little_endian;
      fields = fields;
      faults = c.args.parsed.faults.items;
    }) bytes c.args.zeros.patches.items) c.drop_gps.ensures
    ∙ ap (λ b. zeros_planned b (read_of c.args.parsed) bytes c.args.zeros.patches.items)
    (sym c.if-unshared.false)
