use Rattle.std.proofs.Common.{◌≡◌, Some, drop}
use Rattle.exif_lengths.specs.Tables.{no_table, quantization_end}
use Rattle.exif_lengths.proofs.tables.quantization_fits.Given as goal

-- the bytes that are left end the tables as all bytes do
abbrev pub invariant-loop-byte : goal.invariant-loop-byte
invariant-loop-byte l =
    quantization_end l.table (drop l.byte-index l.bytes) ≡ quantization_end (Some no_table) l.bytes
