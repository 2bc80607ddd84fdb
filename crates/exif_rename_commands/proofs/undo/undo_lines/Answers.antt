use Rattle.exif_rename_commands.proofs.Undoing.{undone_in}
use Rattle.exif_rename_commands.proofs.undo.undo_lines.Goals as goal

pub returns-in-Ok-clause-undone : goal.returns-in-Ok-clause-undone
returns-in-Ok-clause-undone g c =
    undone_in c.args.lines c.in-Ok.text c.as_slice.result.now c.undo_text.result c.args.session.now.pending c.undo_text.new.session.pending
    c.in-Ok.is c.as_slice.ensures.value c.undo_text.ensures.undone
