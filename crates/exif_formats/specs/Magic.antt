-- TIFF data with another number in place of 42 (TIFF 6.0, section 2).
use Rattle.std.specs.Prelude.{ℕ, List, ◌++◌, take, drop, codes, if◌then◌else◌}
use Rattle.std.specs.Str.{bytes_eq}

-- the first four bytes of TIFF data in the order of these
abbrev pub tiff_signature : List ℕ → List ℕ
tiff_signature bytes =
    if bytes_eq (take 1 bytes) (codes "M") then codes "MM\0*" else codes "II*\0"

-- the same bytes as TIFF data
abbrev pub as_tiff : List ℕ → List ℕ
as_tiff bytes = tiff_signature bytes ++ drop 4 bytes
