-- The headers of boxes: four bytes of size, four of type, and maybe eight more of size
-- (ISO/IEC 14496-12:2015, 4.2).
use Rattle.std.specs.Prelude.{ℕ, ◌-◌, List, length, take, drop, nat_lt, ◌||◌, ◌==◌, Option, Some, None, unwrap_or, if◌then◌else◌}
use Rattle.std.specs.Int.{from_be_bytes, w32, w64}
use Rattle.exif_inventory.specs.declared.boxes.BoxHeader.{BoxHeader}
use Rattle.exif_inventory.specs.declared.boxes.Head.{Head}

-- a header whose size has eight bytes, behind the type
abbrev pub large_header : List ℕ → Option BoxHeader
large_header bytes =
    if nat_lt (length bytes) 16 then None
    else Some (record { front = 16; size = Some (from_be_bytes w64 (take 8 (drop 8 bytes))) })

-- a header with this size in front of the type: 0 runs to the end, and 1 says that the size is
-- behind the type
abbrev pub sized_header : ℕ → List ℕ → Option BoxHeader
sized_header size bytes =
    if size == 0 then Some (record { front = 8; size = None }) else
    if size == 1 then large_header bytes else Some (record { front = 8; size = Some size })

-- the header at the front of bytes, if it is whole
unfoldable pub box_header : List ℕ → Option BoxHeader
box_header bytes =
    if nat_lt (length bytes) 8 then None
    else sized_header (from_be_bytes w32 (take 4 bytes)) bytes

-- a header of so many bytes, of a box that takes so many of those that are there
abbrev pub checked : ℕ → ℕ → ℕ → Option Head
checked front len all =
    if nat_lt len front || nat_lt all len then None else Some (record { front = front; len = len })

-- the header of a box among so many bytes, if the box is whole
abbrev pub whole_head : ℕ → Option BoxHeader → Option Head
whole_head all None = None
whole_head all (Some header) = checked header.front (unwrap_or header.size all) all

-- the header at the front of bytes, if the box is whole
unfoldable pub head_of : List ℕ → Option Head
head_of bytes = whole_head (length bytes) (box_header bytes)

-- the type of a box
abbrev pub name_of : List ℕ → List ℕ
name_of bytes = take 4 (drop 4 bytes)

-- what follows its header
abbrev pub content_of : Head → List ℕ → List ℕ
content_of head bytes = take (head.len - head.front) (drop head.front bytes)
