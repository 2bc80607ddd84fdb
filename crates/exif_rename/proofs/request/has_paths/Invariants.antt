use Rattle.std.proofs.Common.{◌≡◌, drop, map}
use Rattle.exif_rename.specs.Planned.{all_own}
use Rattle.exif_rename.specs.RenameRequests.{file_of}
use Rattle.exif_rename.proofs.request.has_paths.Given as goal

abbrev pub invariant-loop-file : goal.invariant-loop-file
invariant-loop-file l =
    all_own l.name (map file_of l.files) ≡ all_own l.name (map file_of (drop l.file-index l.files))
