-- How the numbers of directories are shown.
use Rattle.std.specs.Prelude.{ℕ, ◌==◌, if◌then◌else◌, List, ◌++◌, codes}
use Rattle.std.specs.Fmt.{decimal}

-- the first two have names
abbrev pub ifd_text : ℕ → List ℕ
ifd_text n = if n == 0 then codes "primary"
    else (if n == 1 then codes "thumbnail" else codes "IFD" ++ decimal n)
