-- Dates and times (IIM 4.2, datasets 2:55 and 2:60; ISO 8601), and how exiftool shows them.
use Rattle.std.specs.Prelude.{ℕ, ◌==◌, ◌&&◌, ◌||◌, nat_le, Bool, true, if◌then◌else◌, List, [], ◌∷◌, ◌++◌, length, take, drop, slice_index}

-- all bytes are digits
abbrev pub all_digits : List ℕ → Bool
all_digits [] = true
all_digits (b ∷ bs) = nat_le 48 b && nat_le b 57 && all_digits bs

-- CCYYMMDD
abbrev pub is_date : List ℕ → Bool
is_date bytes = (length bytes == 8) && all_digits bytes

-- HHMMSS, and the offset from UTC as +HHMM or -HHMM
abbrev pub is_time : List ℕ → Bool
is_time bytes =
    (length bytes == 11) && all_digits (take 6 bytes)
    && ((slice_index bytes 6 == 43) || (slice_index bytes 6 == 45)) && all_digits (drop 7 bytes)

-- parts with a colon between them
abbrev pub colon : List ℕ → List ℕ → List ℕ
colon left right = left ++ 58 ∷ right

-- CCYY:MM:DD
abbrev pub separated_date : List ℕ → List ℕ
separated_date bytes =
    if is_date bytes
    then colon (take 4 bytes) (colon (take 2 (drop 4 bytes)) (drop 6 bytes))
    else bytes

-- HH:MM:SS+HH:MM
abbrev pub separated_time : List ℕ → List ℕ
separated_time bytes =
    if is_time bytes
    then colon (take 2 bytes)
    (colon (take 2 (drop 2 bytes)) (colon (take 5 (drop 4 bytes)) (drop 9 bytes)))
    else bytes
