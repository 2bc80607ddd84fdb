-- Properties by their paths (the notation of Adobe's XMP Toolkit: XMP Specification, Part 1, 6).
use Rattle.std.specs.Prelude.{ℕ, zero, suc, ◌+◌, ◌-◌, ◌&&◌, not, Bool, true, false, List, [], ◌∷◌, length, take, drop, codes, Option, None, Some, if◌then◌else◌}
use Rattle.std.specs.Str.{bytes_eq}
use Rattle.exif_xmp.specs.Paths.{with_index}
use Rattle.exif_xmp.specs.Properties.{PropertyView}

-- the path of the array of which a path is the first item
abbrev pub array_of : List ℕ → Option (List ℕ)
array_of path =
    if bytes_eq (drop (length path - 3) path) (codes "[1]")
    then Some (take (length path - 3) path) else None

-- the path of an item of an array
abbrev pub item_path : List ℕ → ℕ → List ℕ
item_path array index = with_index array index

-- whether a property has a path
abbrev pub has_path : List ℕ → PropertyView → Bool
has_path path p = bytes_eq p.path path

-- whether a property is this item of an array
abbrev pub is_item : List ℕ → ℕ → PropertyView → Bool
is_item array index p = has_path (item_path array index) p

-- how many properties at the front are the items of an array from an index on
abbrev pub run_len : List ℕ → ℕ → List PropertyView → ℕ
run_len array index [] = 0
run_len array index (p ∷ ps) =
    if is_item array index p then suc (run_len array (index + 1) ps) else 0

-- the properties from the first with a path on
abbrev pub from_path : List ℕ → List PropertyView → List PropertyView
from_path path [] = []
from_path path (p ∷ ps) = if has_path path p then p ∷ ps else from_path path ps

-- the items of an array at the front
abbrev pub items_of : List ℕ → List PropertyView → List PropertyView
items_of array ps = take (run_len array 1 ps) ps

-- the first of the properties alone, or else the items of an array
abbrev pub first_or : List PropertyView → List PropertyView → List PropertyView
first_or [] items = items
first_or (p ∷ ps) items = p ∷ []

-- the property with a path, or else the items of the array with it
abbrev pub properties_at : List ℕ → List PropertyView → List PropertyView
properties_at path ps =
    first_or (from_path path ps) (items_of path (from_path (item_path path 1) ps))

-- whether a property has a language, and whether each of them has one
abbrev pub is_there : Option (List ℕ) → Bool
is_there None = false
is_there (Some language) = true

abbrev pub has_language : PropertyView → Bool
has_language p = is_there p.language

abbrev pub has_languages : List PropertyView → Bool
has_languages [] = true
has_languages (p ∷ ps) = if has_language p then has_languages ps else false

-- whether two languages are the same
abbrev pub same_language : Option (List ℕ) → Option (List ℕ) → Bool
same_language (Some one) (Some other) = bytes_eq one other
same_language one other = false

-- whether the first two properties have the same language
abbrev pub shares_language : List PropertyView → Bool
shares_language (one ∷ other ∷ ps) = same_language one.language other.language
shares_language ps = false

-- whether there is one
abbrev pub has_items : List PropertyView → Bool
has_items [] = false
has_items (p ∷ ps) = true

-- whether items are the texts of a language alternative
abbrev pub is_alternative : List PropertyView → Bool
is_alternative items = has_items items && has_languages items && not (shares_language items)

-- whether a text is the one for any language
abbrev pub is_default : Option (List ℕ) → Bool
is_default None = false
is_default (Some language) = bytes_eq language (codes "x-default")

abbrev pub has_default_language : PropertyView → Bool
has_default_language p = is_default p.language

-- the texts of an alternative from the one for any language on
abbrev pub default_from : List PropertyView → List PropertyView
default_from [] = []
default_from (p ∷ ps) = if has_default_language p then p ∷ ps else default_from ps

-- that one, or else the first
abbrev pub default_item : List PropertyView → List PropertyView
default_item items = first_or (default_from items) (take 1 items)

-- the properties whose texts are shown of a path
abbrev pub shown_of : List PropertyView → List PropertyView
shown_of items = if is_alternative items then default_item items else items

abbrev pub texts_at : List ℕ → List PropertyView → List PropertyView
texts_at path ps = shown_of (properties_at path ps)
