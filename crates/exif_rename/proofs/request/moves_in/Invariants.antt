use Rattle.std.proofs.Common.{◌≡◌, ◌++◌, drop, map}
use Rattle.exif_rename.specs.RenameRequests.{file_of, move_of, moves_in}
use Rattle.exif_rename.proofs.request.moves_in.Given as goal

abbrev pub invariant-loop-file : goal.invariant-loop-file
invariant-loop-file l =
    moves_in l.name (map file_of l.files)
    ≡ map move_of l.moves.items ++ moves_in l.name (map file_of (drop l.file-index l.files))
