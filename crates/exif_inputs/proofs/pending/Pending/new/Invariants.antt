use Rattle.std.proofs.Common.{◌≡◌, ◌++◌, drop, map}
use Rattle.exif_inputs.specs.Pending.{named, waiting_of}
use Rattle.exif_inputs.proofs.pending.Pending.new.Given as goal

-- the files so far, and those of the paths that are left, are all
abbrev pub invariant-loop-path : goal.invariant-loop-path
invariant-loop-path l =
    map waiting_of l.waiting.items ++ map (λ path. named path.now) (drop l.path-index l.paths)
    ≡ map (λ path. named path.now) l.paths
