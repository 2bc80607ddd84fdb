-- What a writer's borrowed fields and blocks hold.
use Rattle.std.specs.Prelude.{ℕ, suc, ◌-◌, List, ◌++◌, length, replicate, map, Option}
use Rattle.std.specs.Prelude.{◌≡◌, Some}
use Rattle.std.specs.Io.KnownBytes.{Appends}
use Rattle.exif_layout.specs.Image.{image}
use Rattle.std.specs.Option.{option_map}
use Rattle.exif_base.specs.declared.endian.Order.{Order}
use denote.Ref.{Bor}
use Rattle.exif_types.specs.declared.field.Field.{Field}
use Rattle.exif_layout.specs.Groups.{Group, Entry, empty_group, entry_of}

-- the entries that borrowed fields are pushed as
abbrev pub entries_in : List (Bor Field) → List Entry
entries_in fields = map (λ field. entry_of field.now) fields

-- borrowed blocks
abbrev pub blocks_of : List (Bor (List ℕ)) → List (List ℕ)
blocks_of blocks = map (λ block. block.now) blocks

-- what borrowed strips or tiles hold, where they are set
abbrev pub set_in : Option (Bor (List (Bor (List ℕ)))) → Option (List (List ℕ))
set_in set = option_map (λ blocks. blocks_of blocks.now) set

-- what a borrowed JPEG holds, where it is set
abbrev pub block_in : Option (Bor (List ℕ)) → Option (List ℕ)
block_in block = option_map (λ bytes. bytes.now) block

-- the groups with new empty ones up to a number
abbrev pub grown : ℕ → List Group → List Group
grown ifd groups = groups ++ replicate (suc ifd - length groups) empty_group

-- two writes in this order that both sent the image sent the same bytes
abbrev pub WritesAgree : Order → List Group → Type 0
WritesAgree order groups =
    (old more old' more' : List ℕ) → Appends (Some old) (Some (old ++ more)) (image order groups)
    → Appends (Some old') (Some (old' ++ more')) (image order groups) → more ≡ more'
