use Rattle.exif_rename_commands.proofs.Undoing.{undone_by}
use Rattle.exif_rename_commands.proofs.undo.undo_text.Goals as goal

pub returns-clause-undone : goal.returns-clause-undone
returns-clause-undone g c =
    undone_by c.args.text.now c.in_ok-steps.steps c.undo_steps.result c.args.session.now.pending c.undo_steps.new.session.pending
    c.in_ok-steps.ensures.steps c.in_ok-steps.ensures.wrong c.undo_steps.ensures.wrong c.undo_steps.ensures.counted
