-- Directories, and the four bytes that hold the offset of each (TIFF 6.0, section 2; Exif 2.32,
-- 4.6.3).
use Rattle.std.specs.Prelude.{ℕ, zero, suc, ◌+◌, ◌*◌, ◌==◌, ◌&&◌, not, nat_le, nat_lt, List, length, Option, Some, None, if◌then◌else◌}
use Rattle.exif_base.specs.Bytes.{Reading, number_at}
use Rattle.exif_table.specs.declared.context.Context.{Context}
use Rattle.exif_table.specs.declared.context.Context.TheVariants.{Tiff, Exif, Gps, Interop}
use Rattle.exif_grow.specs.declared.directories.Directory.{Directory}

-- the directory whose offset is stored at s, if it is whole in the data
unfoldable pub directory_at : Reading → List ℕ → ℕ → Option Directory
directory_at number bytes s =
    let p = number_at number 4 bytes s in
    let n = number_at number 2 bytes p in
    if not (p == 0) && nat_le (p + 12 * n + 6) (length bytes)
    then Some (record { slot = s; offset = p; count = n }) else None

-- where a directory stores the offset of the next one
abbrev pub next_slot : Directory → ℕ
next_slot d = d.offset + 2 + 12 * d.count

-- the directory that is k steps further in the chain
abbrev pub chain_from : Reading → List ℕ → ℕ → Option Directory → Option Directory
chain_from number bytes k None = None
chain_from number bytes zero (Some d) = Some d
chain_from number bytes (suc k) (Some d) =
    chain_from number bytes k (directory_at number bytes (next_slot d))

-- the offset of the value in the first of so many entries from e on that has the tag n
abbrev pub tag_slot : Reading → List ℕ → ℕ → ℕ → ℕ → Option ℕ
tag_slot number bytes n zero e = None
tag_slot number bytes n (suc left) e =
    if number_at number 2 bytes e == n then Some (e + 8) else tag_slot number bytes n left (e + 12)

-- the directory whose offset is stored at a slot, if there is one
abbrev pub directory_from : Reading → List ℕ → Option ℕ → Option Directory
directory_from number bytes None = None
directory_from number bytes (Some s) = directory_at number bytes s

-- the directory to which the tag n of another one points
abbrev pub child_at : Reading → List ℕ → ℕ → Option Directory → Option Directory
child_at number bytes n None = None
child_at number bytes n (Some d) =
    directory_from number bytes (tag_slot number bytes n d.count (d.offset + 2))

-- directory k of the chain; the header stores the offset of the first
abbrev pub chain_at : Reading → List ℕ → ℕ → Option Directory
chain_at number bytes k = chain_from number bytes k (directory_at number bytes 4)

-- the directory of a context that belongs to directory k of the chain
abbrev pub directory_named : Reading → List ℕ → Context → ℕ → Option Directory
directory_named number bytes Tiff k = chain_at number bytes k
directory_named number bytes Exif k = child_at number bytes 0x8769 (chain_at number bytes k)
directory_named number bytes Gps k = child_at number bytes 0x8825 (chain_at number bytes k)
directory_named number bytes Interop k =
    child_at number bytes 0xa005 (child_at number bytes 0x8769 (chain_at number bytes k))

-- how many of so many entries from e on are before the first one whose tag is larger than n
abbrev pub leading : Reading → List ℕ → ℕ → ℕ → ℕ → ℕ
leading number bytes n zero e = 0
leading number bytes n (suc left) e =
    if nat_lt n (number_at number 2 bytes e) then 0
    else leading number bytes n left (e + 12) + 1

-- the same of the entries of a directory
abbrev pub leading_in : Reading → List ℕ → ℕ → Directory → ℕ
leading_in number bytes n d = leading number bytes n d.count (d.offset + 2)
