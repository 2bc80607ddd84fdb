-- Bytes put over others.
use Rattle.std.specs.Prelude.{ℕ, ◌+◌, ◌-◌, ◌≤◌, ◌&&◌, nat_le, nat_lt, Bool, List, [], ◌∷◌, ◌++◌, length, take, drop, replicate}
use Rattle.exif_base.specs.Bytes.{bytes_at}
use Rattle.exif_edit_base.specs.declared.patch.Patch.{Patch}
use Rattle.exif_edit_base.specs.declared.patch.Span.{Span}

-- the bytes with others in place of those that are there
abbrev pub put_at : ℕ → List ℕ → List ℕ → List ℕ
put_at offset encoded bytes = take offset bytes ++ (encoded ++ drop (offset + length encoded) bytes)

-- the bytes with patches put over them, one after another
abbrev pub patched : List Patch → List ℕ → List ℕ
patched [] bytes = bytes
patched (p ∷ ps) bytes = patched ps (put_at p.offset p.bytes bytes)

-- a patch that holds the bytes at its offset
abbrev pub taken : List ℕ → Patch → Patch
taken bytes p = record { offset = p.offset; bytes = bytes_at (length p.bytes) bytes p.offset }

-- the patches, each with the bytes at its offset as they were put over the bytes
abbrev pub swapped : List Patch → List ℕ → List Patch
swapped [] bytes = []
swapped (p ∷ ps) bytes = taken bytes p ∷ swapped ps (put_at p.offset p.bytes bytes)

-- the bytes with patches put over them, from the last to the first
abbrev pub put_back : List Patch → List ℕ → List ℕ
put_back [] bytes = bytes
put_back (p ∷ ps) bytes = put_at p.offset p.bytes (put_back ps bytes)

-- the patches, each with the bytes at its offset then
abbrev pub swapped_back : List Patch → List ℕ → List Patch
swapped_back [] bytes = []
swapped_back (p ∷ ps) bytes = taken (put_back ps bytes) p ∷ swapped_back ps bytes

-- a patch lies in data of a length
abbrev pub FitsIn : ℕ → Patch → Type 0
FitsIn total p = p.offset + length p.bytes ≤ total

-- whether an offset is one of a span
abbrev pub inside : ℕ → Span → Bool
inside i s = nat_le s.offset i && nat_lt i (s.offset + s.len)

-- zeros over a span
abbrev pub zeros_over : Span → Patch
zeros_over s = record { offset = s.offset; bytes = replicate s.len 0 }

-- bytes, and zeros behind them up to a length
abbrev pub padded : ℕ → List ℕ → List ℕ
padded n encoded = encoded ++ replicate (n - length encoded) 0
