-- How far two points of a track may be apart, as people write it.
use Rattle.std.specs.Prelude.{ℕ, nat_le, if◌then◌else◌, List, Option, Some, None}
use Rattle.std.specs.Option.{option_and_then}
use Rattle.exif_geotag.specs.Numbers.{decimal_of}

-- the milliseconds of the seconds that a text spells, up to ten days
unfoldable pub gap_in : List ℕ → Option ℕ
gap_in text =
    option_and_then (λ gap. if nat_le gap 864000000 then Some gap else None)
    (decimal_of 1000 text)

-- that of an option: five minutes where none is given
abbrev pub gap_by : Option (List ℕ) → Option ℕ
gap_by None = Some 300000
gap_by (Some text) = gap_in text
