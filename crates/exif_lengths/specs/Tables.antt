-- Whether the tables of a JPEG segment fill it (ITU-T T.81, B.2.4.1, B.2.4.2).
use Rattle.std.specs.Prelude.{ℕ, ◌+◌, ◌-◌, List, [], ◌∷◌, nat_lt, Bool, false, ◌&&◌, ◌==◌, Option, Some, None, if◌then◌else◌}
use Rattle.std.specs.Io.Iter.{u64_saturate}
use Rattle.exif_lengths.specs.declared.tables.Table.{Table}

-- no table has begun
abbrev pub no_table : Table
no_table = record { counts = 0; left = 0 }

-- whether a table has all its bytes
abbrev pub is_whole : Table → Bool
is_whole table = (table.counts == 0) && (table.left == 0)

-- so whether there is one
abbrev pub all_whole : Option Table → Bool
all_whole (Some table) = is_whole table
all_whole None = false

-- ---- quantization tables (B.2.4.1)

-- a table whose first byte is this: in its upper half, 0 is a precision of one byte for each of the
-- 64 elements, and 1 of two bytes
abbrev pub quantization_begun : ℕ → Option Table
quantization_begun byte =
    if nat_lt byte 16 then Some (record { counts = 0; left = 64 }) else
    if nat_lt byte 32 then Some (record { counts = 0; left = 128 }) else None

-- one byte more
abbrev pub quantization_step : Option Table → ℕ → Option Table
quantization_step None byte = None
quantization_step (Some table) byte =
    if table.left == 0 then quantization_begun byte
    else Some (record { counts = 0; left = table.left - 1 })

-- the table that is begun at the end of bytes, if they are those of tables
abbrev pub quantization_end : Option Table → List ℕ → Option Table
quantization_end table [] = table
quantization_end table (byte ∷ bytes) = quantization_end (quantization_step table byte) bytes

-- whether bytes are whole tables
abbrev pub quantization_fits : List ℕ → Bool
quantization_fits bytes = all_whole (quantization_end (Some no_table) bytes)

-- ---- Huffman tables (B.2.4.2)

-- one byte more: a class, 16 counts, and as many codes as they say in all
abbrev pub huffman_step : Table → ℕ → Table
huffman_step table byte =
    if nat_lt 0 table.counts
    then record { counts = table.counts - 1; left = u64_saturate (table.left + byte) } else
    if nat_lt 0 table.left then record { counts = 0; left = table.left - 1 }
    else record { counts = 16; left = 0 }

-- the table that is begun at the end of bytes
abbrev pub huffman_end : Table → List ℕ → Table
huffman_end table [] = table
huffman_end table (byte ∷ bytes) = huffman_end (huffman_step table byte) bytes

-- whether bytes are whole tables
abbrev pub huffman_fits : List ℕ → Bool
huffman_fits bytes = is_whole (huffman_end no_table bytes)
