-- The line of progress.
use Rattle.std.specs.Prelude.{ℕ, List, ◌∷◌, ◌++◌, codes}
use Rattle.std.specs.Fmt.{decimal}

-- what removes it: a carriage return, and the control sequence EL (ECMA-48, 8.3.41)
abbrev pub cleared_line : List ℕ
cleared_line = 13 ∷ 27 ∷ codes "[K"

-- what replaces it
abbrev pub step_line : ℕ → ℕ → List ℕ
step_line done left =
    cleared_line ++ (decimal done ++ (codes " files done, " ++ (decimal left ++ codes " left")))
