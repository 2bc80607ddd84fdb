-- How a run ends.
use Rattle.std.specs.Prelude.{◌≡◌, ℕ}
use Rattle.exif_files.specs.Statuses.{code}
use Rattle.exif_files.specs.declared.outcome.Status.{Status}

-- with the code of a status: 0, 3 or 1
abbrev pub IsStatus : ℕ → Type 0
IsStatus n = (status : Status) × (n ≡ code status)
