use Rattle.std.proofs.Common.{length}
use Rattle.exif_rename_commands.proofs.Undoing.{counted_by, if_done}
use Rattle.exif_rename_commands.proofs.undo.take_all_back.Goals as goal

pub returns-clause-counted : goal.returns-clause-counted
returns-clause-counted g c =
    let each = c.in_ok-take_each_back.ensures.counted in
    if_done c.settle.result _ (counted_by (length c.args.steps.items) each.0 c.args.session.now.pending c.take_each_back.new.session.pending
    c.settle.new.session.pending each.1 each.2 c.settle.ensures.beside c.settle.ensures.rest)
