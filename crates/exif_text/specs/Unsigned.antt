-- The unsigned whole numbers that a value holds.
use Rattle.std.specs.Prelude.{ℕ, List, [], ◌∷◌, Option, Some, None}
use Rattle.std.specs.List.{slice_get}
use Rattle.std.specs.Option.{option_and_then}
use Rattle.exif_text.specs.Contents.{Plain, Bytes, Shorts, Longs}
use Rattle.exif_text.specs.declared.unsigned.Numbers.{Numbers}
use Rattle.exif_text.specs.declared.unsigned.Numbers.TheVariants as numbers

-- the numbers of a value of unsigned whole numbers, which no other value has
abbrev pub numbers_of : Plain → Option (List ℕ)
numbers_of (Bytes ns) = Some ns
numbers_of (Shorts ns) = Some ns
numbers_of (Longs ns) = Some ns
numbers_of _ = None

-- the number at an index, if there is one
abbrev pub number_at : Plain → ℕ → Option ℕ
number_at v i = option_and_then (λ ns. slice_get ns i) (numbers_of v)

-- the numbers of a borrowed list
abbrev pub numbers_in : Numbers → List ℕ
numbers_in (numbers.Byte ns) = ns.now
numbers_in (numbers.Short ns) = ns.now
numbers_in (numbers.Long ns) = ns.now

-- a number and the numbers behind it
abbrev pub first_and_rest : ℕ × Numbers → ℕ × List ℕ
first_and_rest (n, ns) = (n, numbers_in ns)

-- the first of a list and those behind it
abbrev pub split_first : List ℕ → Option (ℕ × List ℕ)
split_first [] = None
split_first (n ∷ ns) = Some (n, ns)
