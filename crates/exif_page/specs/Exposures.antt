-- The text of an exposure.
use Rattle.std.specs.Prelude.{ℕ, ◌+◌, ◌*◌, ◌/◌, ◌^◌, ◌&&◌, Bool, nat_le, if◌then◌else◌, List, [], ◌∷◌, ◌++◌, Option, Some, None, option_map, option_and_then, codes}
use Rattle.std.specs.Fmt.{decimal}
use Rattle.exif_page.specs.Numbers.{billionths_of, short_text}

-- a product of a time in billionths and a number is a second, within one in a hundred
abbrev pub is_second : ℕ → Bool
is_second n = nat_le 990000000 n && nat_le n 1010000000

-- the number nearest to a second over a time of billionths
abbrev pub nearest : ℕ → ℕ
nearest n = (10 ^ 9 + n / 2) / n

-- that number, where it says the time well, and the time is at most a third of a second
abbrev pub part_of_second : ℕ → Option ℕ
part_of_second n =
    if nat_le 3 (nearest n) && is_second (nearest n * n) then Some (nearest n) else None

-- an exposure time: as a part of a second, or as a decimal number
abbrev pub seconds_text : ℕ → List ℕ
seconds_text n = elim (part_of_second n)
    [ Some part ↦ codes "1/" ++ decimal part ++ codes " s" | None ↦ short_text n ++ codes " s" ]

-- the same of the text of the time in seconds, if it is one
abbrev pub time_part : Option (List ℕ) → Option (List ℕ)
time_part text = option_map seconds_text (option_and_then billionths_of text)

-- a decimal number between two texts, if it is one
abbrev pub number_part : List ℕ → Option (List ℕ) → List ℕ → Option (List ℕ)
number_part before text after =
    option_map (λ n. before ++ short_text n ++ after) (option_and_then billionths_of text)

-- a part behind others, with a comma between them
abbrev pub with_part : List ℕ → Option (List ℕ) → List ℕ
with_part front None = front
with_part [] (Some part) = part
with_part (byte ∷ front) (Some part) = (byte ∷ front) ++ codes ", " ++ part

-- a text, if it is not empty
abbrev pub not_empty : List ℕ → Option (List ℕ)
not_empty [] = None
not_empty (byte ∷ text) = Some (byte ∷ text)

-- the parts of a time, an f-number, a sensitivity and a focal length, of which each may be unknown
abbrev pub exposure_of : (time f_number iso focal_length : Option (List ℕ)) → Option (List ℕ)
exposure_of time f_number iso focal_length =
    not_empty (with_part (with_part (with_part (with_part [] (time_part time))
    (number_part (codes "f/") f_number [])) (option_map (λ t. codes "ISO " ++ t) iso))
    (number_part [] focal_length (codes " mm")))
