use Rattle.std.proofs.Common.{Ok, ap, sym, ◌∙◌}
use Rattle.exif_base.specs.Orders.{number_of}
use Rattle.exif_edit_base.specs.Readings.{read_of}
use Rattle.exif_edit_base.proofs.FindSteps.{header_named}
use Rattle.exif_edit.proofs.AloneSound.{erase_alone, offsets_change}
use Rattle.exif_edit.proofs.AloneSteps.{fit_small}
use Rattle.exif_edit.proofs.EraseSteps.{zeros_are}
use Rattle.exif_edit.proofs.EraseSound.{gps_fit}
use Rattle.exif_edit.proofs.erase.zeros_of.Goals as goal

pub gps_is_unshared-unshared-requires-clause-header :
    goal.gps_is_unshared-unshared-requires-clause-header
gps_is_unshared-unshared-requires-clause-header c =
    header_named c.args.bytes.now (read_of c.args.located.now.parsed) c.requires.reads
    ∙ ap (λ o. Ok o) (sym c.order_named-order.ensures)

pub gps_is_unshared-unshared-requires-clause-patches :
    goal.gps_is_unshared-unshared-requires-clause-patches
gps_is_unshared-unshared-requires-clause-patches c =
    rw c.as_slice.ensures.value
    (fit_small _ _ c.requires.small
    (gps_fit c.args.bytes.now c.in_ok-patches.patches.items
    c.args.located.now.parsed.little_endian
    (zeros_are c.args.bytes.now c.in_ok-patches.patches.items
    (read_of c.args.located.now.parsed) c.order_named-order.result c.order_named-order.ensures
    c.in_ok-patches.ensures)))

pub gps_is_unshared-unshared-requires-clause-erased :
    goal.gps_is_unshared-unshared-requires-clause-erased
gps_is_unshared-unshared-requires-clause-erased c =
    rw c.as_slice.ensures.value
    (offsets_change (number_of c.order_named-order.result) c.args.bytes.now
    c.in_ok-patches.patches.items
    c.in_ok-patches.ensures)

pub returns-clause-unshared : goal.returns-clause-unshared
returns-clause-unshared c = λ unshared.
    erase_alone c.args.bytes.now c.order_named-order.result c.in_ok-patches.patches.items
    (header_named c.args.bytes.now (read_of c.args.located.now.parsed) c.requires.reads
    ∙ ap (λ o. Ok o) (sym c.order_named-order.ensures))
    c.in_ok-patches.ensures
    (c.gps_is_unshared-unshared.ensures unshared)

pub returns-clause-within : goal.returns-clause-within
returns-clause-within c =
    gps_fit c.args.bytes.now c.in_ok-patches.patches.items
    c.args.located.now.parsed.little_endian
    (zeros_are c.args.bytes.now c.in_ok-patches.patches.items
    (read_of c.args.located.now.parsed) c.order_named-order.result c.order_named-order.ensures
    c.in_ok-patches.ensures)
