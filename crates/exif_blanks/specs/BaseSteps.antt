-- So many bytes of which all stay, or those at the front.
use Rattle.std.specs.Prelude.{ℕ}
use Rattle.exif_blanks.specs.declared.steps.Place.{Place}
use Rattle.exif_blanks.specs.declared.steps.Step.{Step}

-- so many bytes that all stay
abbrev pub whole : ℕ → Place → Step
whole len next = record { len = len; kept = len; fill = 0; next = next }

-- so many bytes of which so many at the front stay
abbrev pub front : ℕ → ℕ → Place → Step
front kept len next = record { len = len; kept = kept; fill = 0; next = next }
