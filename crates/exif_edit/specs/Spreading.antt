-- Patches of located data as patches of the file.
use Rattle.std.specs.Prelude.{ℕ, ◌+◌, ◌-◌, nat_le, if◌then◌else◌, List, [], ◌∷◌, ◌++◌, length, take, drop}
use Rattle.std.specs.Io.Iter.{u64_saturate}
use Rattle.exif_isobmff.specs.declared.locations.Extent.{Extent}
use Rattle.exif_edit_base.specs.declared.patch.Patch.{Patch}

-- a patch of bytes that begin at an offset of a file
abbrev pub shifted : ℕ → Patch → Patch
shifted offset p = record { offset = u64_saturate (offset + p.offset); bytes = p.bytes }

-- a patch of what follows the first n bytes, which are before it
abbrev pub without : ℕ → Patch → Patch
without n p = record { offset = p.offset - n; bytes = p.bytes }

-- the first n bytes of a patch
abbrev pub first_of : ℕ → Patch → Patch
first_of n p = record { offset = p.offset; bytes = take n p.bytes }

-- its other bytes, at the front of what follows
abbrev pub rest_of : ℕ → Patch → Patch
rest_of n p = record { offset = 0; bytes = drop n p.bytes }

-- a patch of data that are in extents, one after the other: it is cut where an extent ends
abbrev pub spread_one : List Extent → Patch → List Patch
spread_one [] p = []
spread_one (e ∷ es) p =
    if nat_le e.len p.offset then spread_one es (without e.len p) else
    (if nat_le (length p.bytes) (e.len - p.offset) then shifted e.offset p ∷ [] else
    shifted e.offset (first_of (e.len - p.offset) p)
    ∷ spread_one es (rest_of (e.len - p.offset) p))

-- each of them in order
abbrev pub spread : List Extent → List Patch → List Patch
spread es [] = []
spread es (p ∷ ps) = spread_one es p ++ spread es ps
