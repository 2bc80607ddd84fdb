use Rattle.std.proofs.Common.{◌≡◌, ◌++◌, drop, map}
use Rattle.exif_rename.specs.RenameRequests.{file_of}
use Rattle.exif_inputs.specs.Requested.{file_for}
use Rattle.exif_inputs.proofs.requests.request_for.Given as goal

-- the files so far, and those of the paths that are left, are all
abbrev pub invariant-loop-path : goal.invariant-loop-path
invariant-loop-path l =
    map file_of l.files.items ++ map (file_for l.stem) (map (λ path. path.now) (drop l.path-index l.paths))
    ≡ map (file_for l.stem) (map (λ path. path.now) l.paths)
