-- What the lines of a run say together.
use Rattle.std.specs.Prelude.{◌≡◌, ◌⊎◌, ℕ, ◌-◌, ◌==◌, ◌<◌, ◌≤◌, List, [], length, take, nat_lt, slice_index_or, Bool, true, All, Option, None, Some, string_bytes}
use Rattle.std.specs.List.{slice_split}
use Rattle.exif_rename.specs.Undo.{line_of}
use Rattle.exif_rename.specs.declared.undo.Step.{Step}

-- the lines of a text: what is between its line feeds (10)
abbrev pub lines_in : List ℕ → List (List ℕ)
lines_in text = slice_split (λ b. b == 10) text

-- whether a line has a byte
abbrev pub is_filled : List ℕ → Bool
is_filled line = nat_lt 0 (length line)

-- the line of a step
abbrev pub step_line : Step → List ℕ
step_line step = line_of step.copied (string_bytes step.from) (string_bytes step.to)

-- no run writes a line
abbrev pub IsWrong : List ℕ → Type 0
IsWrong line = (step : Step) → line ≡ step_line step → ⊥

-- a step is that of a line, and where there is none, no run writes the line
abbrev pub IsStepOf : List ℕ → Option Step → Type 0
IsStepOf line None = IsWrong line
IsStepOf line (Some step) = line ≡ step_line step

-- a line without a byte, or one that a run writes
abbrev pub IsRight : List ℕ → Type 0
IsRight line = (line ≡ []) ⊎ ((step : Step) × (line ≡ step_line step))

-- the line with this number, counted from 1, is the first that has bytes and that no run writes
abbrev pub IsFirstWrong : List (List ℕ) → ℕ → Type 0
IsFirstWrong lines number =
    (0 < number) × (number ≤ length lines) × All IsRight (take (number - 1) lines)
    × (is_filled (slice_index_or lines (number - 1) []) ≡ true)
    × IsWrong (slice_index_or lines (number - 1) [])
