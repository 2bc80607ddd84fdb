-- The items of arrays of XMP (XMP Specification, Part 1, 6.3 and 6.4; Part 3 for files with several
-- packets).
use Rattle.std.specs.Prelude.{ℕ, ◌+◌, ◌==◌, ◌&&◌, ◌||◌, not, Bool, true, false, List, [], ◌∷◌, length, take, drop, codes, Option, None, Some, if◌then◌else◌}
use Rattle.std.specs.List.{list_any}
use Rattle.std.specs.Str.{bytes_eq}
use Rattle.exif_xmp.specs.Properties.{PropertyView}
use Rattle.exif_xmp.specs.declared.property.Form.{Form}
use Rattle.exif_xmp.specs.declared.property.Form.TheVariants.{Text, Unread}

-- what is behind a name in a path that begins with it
abbrev pub behind : List ℕ → List ℕ → Option (List ℕ)
behind name path =
    if bytes_eq (take (length name) path) name then Some (drop (length name) path) else None

-- the same in the path of a property, if that is of this namespace
abbrev pub index_of : List ℕ → List ℕ → PropertyView → Option (List ℕ)
index_of namespace name p =
    if bytes_eq p.namespace namespace then behind name p.path else None

-- what is behind the name of an array is an index, with no field behind it, or nothing: a property
-- that is no array has one item
abbrev pub is_index : List ℕ → Bool
is_index [] = true
is_index (b ∷ bs) = b == 91 && not (list_any (λ c. c == 47) (b ∷ bs))

-- an item of an array
abbrev pub is_at : Option (List ℕ) → Bool
is_at None = false
is_at (Some rest) = is_index rest

abbrev pub is_item : List ℕ → List ℕ → PropertyView → Bool
is_item namespace name p = is_at (index_of namespace name p)

-- the first item of an array
abbrev pub is_start : Option (List ℕ) → Bool
is_start None = false
is_start (Some rest) = (length rest == 0) || bytes_eq rest (codes "[1]")

abbrev pub begins : List ℕ → List ℕ → PropertyView → Bool
begins namespace name p = is_start (index_of namespace name p)

-- the properties from the first item of an array on
abbrev pub from_first : List ℕ → List ℕ → List PropertyView → List PropertyView
from_first namespace name [] = []
from_first namespace name (p ∷ ps) =
    if is_item namespace name p then p ∷ ps else from_first namespace name ps

-- a property is of the same array as n items before it
abbrev pub belongs : List ℕ → List ℕ → ℕ → PropertyView → Bool
belongs namespace name n p =
    is_item namespace name p && ((n == 0) || not (begins namespace name p))

-- the items behind n items of an array
abbrev pub items_from : List ℕ → List ℕ → ℕ → List PropertyView → List PropertyView
items_from namespace name n [] = []
items_from namespace name n (p ∷ ps) =
    if belongs namespace name n p then p ∷ items_from namespace name (n + 1) ps else []

-- the items of the first array of a name and namespace: those before another first item
abbrev pub array_of : List ℕ → List ℕ → List PropertyView → List PropertyView
array_of namespace name ps = items_from namespace name 0 (from_first namespace name ps)

-- a text, unless it is empty
abbrev pub filled : List ℕ → Option (List ℕ)
filled [] = None
filled (b ∷ bs) = Some (b ∷ bs)

-- the text of a property, if it has one that is not empty
abbrev pub text_as : Form → List ℕ → Option (List ℕ)
text_as Text text = filled text
text_as Unread text = None

abbrev pub text_of : PropertyView → Option (List ℕ)
text_of p = text_as p.form p.text

-- texts, with one more before them, if there is one
abbrev pub with_text : Option (List ℕ) → List (List ℕ) → List (List ℕ)
with_text None texts = texts
with_text (Some text) texts = text ∷ texts

-- the texts of properties
abbrev pub texts_of : List PropertyView → List (List ℕ)
texts_of [] = []
texts_of (p ∷ ps) = with_text (text_of p) (texts_of ps)

-- a text, or else another one
abbrev pub text_or : Option (List ℕ) → Option (List ℕ) → Option (List ℕ)
text_or None other = other
text_or (Some text) other = Some text

-- the first text of properties
abbrev pub first_text : List PropertyView → Option (List ℕ)
first_text [] = None
first_text (p ∷ ps) = text_or (text_of p) (first_text ps)

-- a property has the text for every language
abbrev pub is_default : Option (List ℕ) → Bool
is_default None = false
is_default (Some language) = bytes_eq language (codes "x-default")

abbrev pub has_language : PropertyView → Bool
has_language p = is_default p.language

-- the first such text
abbrev pub default_text : List PropertyView → Option (List ℕ)
default_text [] = None
default_text (p ∷ ps) =
    if has_language p then text_or (text_of p) (default_text ps) else default_text ps

-- the text for every language, or else the first one
abbrev pub preferred_text : List PropertyView → Option (List ℕ)
preferred_text ps = text_or (default_text ps) (first_text ps)
