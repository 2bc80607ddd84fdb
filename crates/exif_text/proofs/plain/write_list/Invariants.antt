use Rattle.std.proofs.Common.{◌≡◌, ℕ, List, take, Some, codes, ◌++◌}
use Rattle.std.specs.Fmt.{HasWritten, IsPlainFormatter}
use Rattle.std.specs.List.{flat_map}
use Rattle.exif_text.proofs.plain.write_list.Given as goal

abbrev pub invariant-loop-item : goal.invariant-loop-item
invariant-loop-item g l =
    (text : g.row.T.Denot → List ℕ) → ((x : g.row.T.Denot) → g.T.Display.output x ≡ Some (text x))
    → IsPlainFormatter l.initial.f → HasWritten g.W.Write.write_str_gives l.initial.f (flat_map (λ x. codes ", " ++ text x) (take l.item-index l.others)) l.f
