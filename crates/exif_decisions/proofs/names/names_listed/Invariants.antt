use Rattle.std.proofs.Common.{◌≡◌, ◌++◌, drop, map, string_bytes}
use Rattle.std.specs.List.{flat_map}
use Rattle.exif_decisions.specs.Names.{listed_name}
use Rattle.exif_decisions.proofs.names.names_listed.Given as goal

-- the names so far, and those of the parts that are left, are all
abbrev pub invariant-loop-part : goal.invariant-loop-part
invariant-loop-part l =
    map string_bytes l.names.items ++ flat_map listed_name (map (λ part. part.now) (drop l.part-index l.part-items))
    ≡ flat_map listed_name (map (λ part. part.now) l.part-items)
