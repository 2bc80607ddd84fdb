use Rattle.std.proofs.Common.{◌≡◌, drop, map}
use Rattle.exif_columns.specs.Prefixes.{is_among, is_known_prefix}
use Rattle.exif_columns.proofs.prefixes.is_known_prefix.Given as goal

-- none of the prefixes so far is this one
abbrev pub invariant-loop-known : goal.invariant-loop-known
invariant-loop-known l =
    is_among l.prefix (map (λ s. s.now) (drop l.known-index l.known-items))
    ≡ is_known_prefix l.prefix
