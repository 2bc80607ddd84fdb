use Rattle.std.proofs.Common.{◌≡◌, ◌++◌, drop, map}
use Rattle.std.specs.List.{flat_map}
use Rattle.std.specs.String.{string_bytes}
use Rattle.exif_inputs.specs.Requested.{sidecars_by}
use Rattle.exif_inputs.proofs.requests.sidecars_of.Given as goal

-- the paths so far, and those of the suffixes that are left, are all
abbrev pub invariant-loop-suffix : goal.invariant-loop-suffix
invariant-loop-suffix l =
    map string_bytes l.paths.items ++ flat_map (sidecars_by l.path) (map (λ s. s.now) (drop l.suffix-index l.all))
    ≡ flat_map (sidecars_by l.path) (map (λ s. s.now) l.all)
