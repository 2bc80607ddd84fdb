use Rattle.std.proofs.Common.{◌≡◌, ◌-◌}
use Rattle.exif_tiff.specs.Trace.{chain_nodes}
use Rattle.exif_tiff.specs.Running.{run}
use Rattle.exif_tiff.proofs.parser.Parser.directories.Given as goal

-- the rest of the chain takes the parser where all of it does
abbrev pub invariant-loop-number : goal.invariant-loop-number
invariant-loop-number g l =
    run (chain_nodes (l.limit - l.number) g.E.Endian.number_of l.bytes l.number l.offset) l.self ≡ run (chain_nodes l.limit g.E.Endian.number_of l.bytes 0 l.fn.first) l.fn.self
