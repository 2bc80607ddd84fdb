use Rattle.std.proofs.Common.{◌≡◌, ◌++◌, drop, map, string_bytes}
use Rattle.std.specs.List.{flat_map}
use Rattle.exif_inputs.specs.Pending.{listed_path}
use Rattle.exif_inputs.proofs.pending.paths_in.Given as goal

-- the paths so far, and those of the names that are left, are all
abbrev pub invariant-loop-name : goal.invariant-loop-name
invariant-loop-name l =
    map string_bytes l.paths.items ++ flat_map (listed_path l.folder) (map string_bytes (drop l.name-index l.name-items))
    ≡ flat_map (listed_path l.folder) (map string_bytes l.name-items)
