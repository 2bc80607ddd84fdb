use Rattle.std.proofs.Common.{◌≡◌, take}
use Rattle.std.specs.Prelude.{flat_map, map}
use Rattle.std.specs.String.{string_bytes}
use Rattle.exif_catalog.specs.Moves.{listed, move_with, paths_of}
use Rattle.exif_catalog.proofs.moving.moves_of.Given as goal

-- the moves so far
abbrev pub invariant-loop-picture : goal.invariant-loop-picture
invariant-loop-picture l = map paths_of l.moves.items
    ≡ flat_map (λ picture. listed (move_with l.gone l.new (string_bytes picture.hash))) (take l.picture-index l.new)
