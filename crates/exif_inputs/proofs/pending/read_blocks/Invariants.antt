use Rattle.std.specs.Io.KnownBytes.{Consumes}
use Rattle.exif_inputs.proofs.pending.read_blocks.Given as goal

-- the bytes so far are those that the reader gave
abbrev pub invariant-loop : goal.invariant-loop
invariant-loop g l = Consumes (g.R.Read.remaining l.fn.reader) (g.R.Read.remaining l.reader) l.bytes.items
