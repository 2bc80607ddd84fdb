-- JSON values (RFC 8259) by lists of their parts.
use Rattle.std.specs.Prelude.{ℕ, ℤ, List, [], ◌∷◌}
use Rattle.std.specs.Fmt.{decimal, signed_decimal}
use Rattle.std.specs.List.{flat_map}
use Rattle.json.specs.Json as J
use Rattle.json.specs.Json.{Json, Items, Members}
use Rattle.json.specs.Token.{Token, key}
use Rattle.json.specs.Tree.{json_tokens}

-- the items of an array
abbrev pub items_of : List Json → Items
items_of [] = J.no_items
items_of (tree ∷ trees) = J.item tree (items_of trees)

-- the members of an object
abbrev pub members_of : List (List ℕ × Json) → Members
members_of [] = J.no_members
members_of (m ∷ ms) = J.member m.0 m.1 (members_of ms)

-- the array of a list of values
abbrev pub array : List Json → Json
array trees = J.array (items_of trees)

-- the object of a list of members, each a name and a value
abbrev pub object : List (List ℕ × Json) → Json
object members = J.object (members_of members)

-- a number without sign, and one with a sign
abbrev pub unsigned : ℕ → Json
unsigned n = J.number (decimal n)

-- a number that may be negative, in decimal digits
abbrev pub signed : ℤ → Json
signed n = J.number (signed_decimal n)

-- the tokens of some members, without the braces
abbrev pub parts_tokens : List (List ℕ × Json) → List Token
parts_tokens members = flat_map (λ m. key m.0 ∷ json_tokens m.1) members
