-- The items of an array among properties.
use Rattle.std.specs.Prelude.{ℕ, ◌+◌, ◌-◌, ◌==◌, ◌&&◌, ◌||◌, not, nat_le, nat_lt, Bool, false, if◌then◌else◌, List, [], ◌∷◌, length, take, drop, slice_index, Option, Some, None}
use Rattle.std.specs.List.{list_all}
use Rattle.std.specs.Str.{bytes_eq}
use Rattle.exif_xmp.specs.Properties.{PropertyView}
use Rattle.exif_xmp_set.specs.declared.items.LastItem.{LastItem}

-- bytes begin with others
unfoldable pub begins_with : List ℕ → List ℕ → Bool
begins_with word bytes = bytes_eq (take (length word) bytes) word

-- a decimal digit
abbrev pub is_digit : ℕ → Bool
is_digit b = nat_le 48 b && nat_le b 57

-- bytes are in brackets
abbrev pub has_brackets : List ℕ → Bool
has_brackets bytes =
    (slice_index bytes 0 == 91) && (slice_index bytes (length bytes - 1) == 93)

-- bytes are an index, as `[2]`
abbrev pub is_index : List ℕ → Bool
is_index bytes =
    if nat_lt (length bytes) 3 || not (has_brackets bytes) then false
    else list_all is_digit (take (length bytes - 2) (drop 1 bytes))

-- a property is an item of the array of a namespace and path
abbrev pub is_item : List ℕ → List ℕ → PropertyView → Bool
is_item namespace path p =
    if not (bytes_eq p.namespace namespace) then false else
    if begins_with path p.path then is_index (drop (length path) p.path) else false

-- an item behind others
abbrev pub next_item : ℕ → PropertyView → Option LastItem → LastItem
next_item position p None = record { position = position; count = 1; whole = p.whole }
next_item position p (Some last) =
    record { position = position; count = last.count + 1; whole = p.whole }

-- the last item of an array, and how many there are
abbrev pub last_from : List ℕ → List ℕ → Option LastItem → ℕ → List PropertyView → Option LastItem
last_from namespace path last position [] = last
last_from namespace path last position (p ∷ ps) =
    last_from namespace path
    (if is_item namespace path p then Some (next_item position p last) else last)
    (position + 1) ps

abbrev pub last_item : List ℕ → List ℕ → List PropertyView → Option LastItem
last_item namespace path ps = last_from namespace path None 0 ps
