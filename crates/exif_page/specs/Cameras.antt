-- The name of a camera.
use Rattle.std.specs.Prelude.{ℕ, ◌==◌, ◌&&◌, Bool, true, not, if◌then◌else◌, List, [], ◌∷◌, ◌++◌, Option, Some, None, codes}
use Rattle.std.specs.Char.{eq_ignore_ascii_case, is_ascii_alphanumeric}

-- the first word of a make ends: with the make, or before a space (32)
abbrev pub ends_word : List ℕ → Bool
ends_word [] = true
ends_word (byte ∷ make) = byte == 32

-- A model begins with the first word of a make, whatever the case of its letters, and a word ends
-- there: `Example Two` of `EXAMPLE WORKS`.
abbrev pub repeats : List ℕ → List ℕ → Bool
repeats [] make = ends_word make
repeats (byte ∷ model) [] = not (is_ascii_alphanumeric byte)
repeats (byte ∷ model) (letter ∷ make) =
    if letter == 32 then not (is_ascii_alphanumeric byte)
    else eq_ignore_ascii_case byte letter && repeats model make

-- the model behind the make, which is not said twice
abbrev pub both : List ℕ → List ℕ → List ℕ
both make model = if repeats model make then model else make ++ codes " " ++ model

-- the name, by what is known of make and model
abbrev pub camera_of : Option (List ℕ) → Option (List ℕ) → Option (List ℕ)
camera_of (Some make) (Some model) = Some (both make model)
camera_of (Some make) None = Some make
camera_of None model = model
