-- Which datasets are repeatable (IIM 4.2, chapters 5 to 9).
use Rattle.std.specs.Prelude.{ℕ, ◌==◌, ◌||◌, Bool, false, if◌then◌else◌}

-- Destination and Product I.D.
abbrev pub in_envelope : ℕ → Bool
in_envelope number = (number == 5) || (number == 50)

-- Object Attribute Reference, Subject Reference, Supplemental Category, Keywords, Content Location
-- Code and Name; Reference Service, Date and Number; By-line and By-line Title, Contact and
-- Writer/Editor
abbrev pub in_application : ℕ → Bool
in_application number =
    (number == 4) || (number == 12) || (number == 20) || (number == 25) || (number == 26)
    || (number == 27) || (number == 45) || (number == 47) || (number == 50) || (number == 80)
    || (number == 85) || (number == 118) || (number == 122)

-- and the Subfile of record 8
abbrev pub is_repeatable : ℕ → ℕ → Bool
is_repeatable record_number number =
    if record_number == 1 then in_envelope number else
    (if record_number == 2 then in_application number else
    (if record_number == 8 then number == 10 else false))
