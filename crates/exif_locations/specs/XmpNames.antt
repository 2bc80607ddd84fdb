-- Which names are those of locations.
use Rattle.std.specs.Prelude.{ℕ, ◌==◌, ◌&&◌, ◌||◌, Bool, true, false, not, List, [], ◌∷◌}
use Rattle.exif_locations.specs.LocationNames.{location_endings, location_names}
use Rattle.exif_locations.specs.Words.{ends_with_one, is_one_of}

-- a byte is a letter, in either case
abbrev pub any_case : ℕ → ℕ → ℕ → Bool
any_case byte small large = (byte == small) || (byte == large)

-- a name begins with `gps`, in any case: the GPS tags of Exif, and what drones write
abbrev pub begins_gps : List ℕ → Bool
begins_gps (g ∷ p ∷ s ∷ rest) = any_case g 103 71 && any_case p 112 80 && any_case s 115 83
begins_gps rest = false

-- a name declares a prefix: it begins with `xmlns`
abbrev pub is_binding : List ℕ → Bool
is_binding (a ∷ b ∷ c ∷ d ∷ e ∷ rest) = (a == 120) && (b == 109) && (c == 108) && (d == 110) && (e == 115)
is_binding rest = false

-- a list begins with another
abbrev pub begins : List ℕ → List ℕ → Bool
begins input [] = true
begins [] (w ∷ word) = false
begins (b ∷ input) (w ∷ word) = (b == w) && begins input word

-- a name without its prefix is that of a location; this takes a time that does not grow with the
-- name
unfoldable pub is_word : List ℕ → Bool
is_word name =
    begins_gps name || is_one_of location_names name || ends_with_one location_endings name

-- what is behind a colon of a name is that of a location
abbrev pub behind_colon : List ℕ → Bool
behind_colon [] = false
behind_colon (b ∷ name) = ((b == 58) && is_word name) || behind_colon name

-- a name is that of a location, whatever prefix it has; the declaration of a prefix is not
unfoldable pub is_location : List ℕ → Bool
is_location name = not (is_binding name) && (is_word name || behind_colon name)
