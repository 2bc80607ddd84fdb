use Rattle.std.proofs.Common.{◌≡◌, drop}
use Rattle.exif_lengths.specs.Tables.{huffman_end, no_table}
use Rattle.exif_lengths.proofs.tables.huffman_fits.Given as goal

-- the bytes that are left end the tables as all bytes do
abbrev pub invariant-loop-byte : goal.invariant-loop-byte
invariant-loop-byte l =
    huffman_end l.table (drop l.byte-index l.bytes) ≡ huffman_end no_table l.bytes
