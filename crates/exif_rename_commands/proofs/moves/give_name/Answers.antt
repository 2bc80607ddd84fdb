use Rattle.std.proofs.Common.{◌≡◌, Ok, false, rules}
use Rattle.exif_rename.proofs.Away.{err_at}
use Rattle.exif_rename_commands.proofs.Giving.{given_after, not_given_after}
use Rattle.exif_rename_commands.proofs.moves.give_name.Goals as goal

pub returns-in-Err-clause-not_copied : goal.returns-in-Err-clause-not_copied
returns-in-Err-clause-not_copied g c = λ copied.
    err_at _ c.copy_file.result c.in-Err.error c.in-Err.is c.copy_file.ensures.failed

pub returns-clause-moved : goal.returns-clause-moved
returns-clause-moved g c = λ moving.
    let none : c.finish_move.result ≡ Ok false = search rules in
    given_after c.args.from.now c.args.to.now c.move_file.result _ _ _ _ _ _ (c.finish_move.ensures.other none)
    c.in_ok-finish_move.ensures.count c.move_file.ensures.done

pub returns-clause-not_moved : goal.returns-clause-not_moved
returns-clause-not_moved g c = λ moving.
    let none : c.finish_move.result ≡ Ok false = search rules in
    not_given_after c.args.from.now c.args.to.now c.move_file.result _ _ _ _ _ _ (c.finish_move.ensures.other none)
    c.in_ok-finish_move.ensures.count c.move_file.ensures.failed
