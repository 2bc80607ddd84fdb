use Rattle.std.proofs.Common.{◌≡◌, ◌-◌, []}
use Rattle.exif_base.specs.Bytes.{number_at}
use Rattle.exif_base.specs.Orders.{number_of}
use Rattle.exif_edit_base.specs.GpsOffsets.{chain_from, max_directories}
use Rattle.exif_edit_base.proofs.offsets.chain.Given as goal

-- what is left of the chain gives the whole
abbrev pub invariant-loop : goal.invariant-loop
invariant-loop l =
    chain_from (max_directories - l.counter) (number_of l.order) l.bytes l.found.items l.offset
    ≡ chain_from max_directories (number_of l.order) l.bytes []
    (number_at (number_of l.order) 4 l.bytes 4)
