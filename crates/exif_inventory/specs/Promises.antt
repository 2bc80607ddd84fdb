-- What is promised of an inventory.
use Rattle.std.specs.Prelude.{◌≡◌, ◌≤◌, ℕ, ◌+◌, List, [], ◌∷◌}
use Rattle.exif_inventory.specs.declared.part.Part.{Part}

-- each part begins where the one before it ends: the first at `at`, and the last ends at `end`
abbrev pub AreInOrder : ℕ → List Part → ℕ → Type 0
AreInOrder at [] end = at ≡ end
AreInOrder at (part ∷ parts) end = (part.offset ≡ at) × AreInOrder (at + part.len) parts end

-- the data of a part are bytes of it
abbrev pub IsWithin : Part → Type 0
IsWithin part =
    (part.offset ≤ part.data_offset) × (part.data_offset + part.data_len ≤ part.offset + part.len)

-- and bytes of a file of this length
abbrev pub EndsIn : ℕ → Part → Type 0
EndsIn n part = part.data_offset + part.data_len ≤ n
