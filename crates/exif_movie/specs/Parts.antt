-- A part of a video.
use Rattle.std.specs.Prelude.{◌≡◌, ◌≤◌, ℕ, List, [], ◌∷◌, take, drop}
use Rattle.exif_movie.specs.declared.part.Part.{Part}

-- the bytes of a part, as far as the file has them
abbrev pub bytes_of : Part → List ℕ → List ℕ
bytes_of part file = drop part.offset (take part.end file)

-- its content
abbrev pub data_of : Part → List ℕ → List ℕ
data_of part file = drop part.data_offset (take part.end file)

-- each part begins where the one before it ends, the first at `from`, and the last ends at `end`;
-- its content is in it
abbrev pub AreParts : ℕ → List Part → ℕ → Type 0
AreParts from [] end = from ≡ end
AreParts from (part ∷ parts) end =
    (part.offset ≡ from) × (part.offset ≤ part.data_offset) × (part.data_offset ≤ part.end)
    × AreParts part.end parts end

-- a part is within a file of this length
abbrev pub IsInside : ℕ → Part → Type 0
IsInside n part = (part.offset ≤ part.end) × (part.end ≤ n)
