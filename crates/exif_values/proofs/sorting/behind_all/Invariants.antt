use Rattle.std.proofs.Common.{◌≡◌, ◌++◌, drop, map}
use Rattle.exif_values.specs.Sorting.{behind_all}
use Rattle.exif_values.proofs.sorting.behind_all.Given as goal

-- the text so far, with the texts that are left, is the one with all
abbrev pub invariant-loop-other : goal.invariant-loop-other
invariant-loop-other l =
    l.text.items ++ behind_all (map (λ t. t.items) (drop l.other-index l.others))
    ≡ l.initial.text.items ++ behind_all (map (λ t. t.items) l.others)
