use Rattle.std.proofs.Common.{take, codes, ◌++◌}
use Rattle.std.specs.List.{flat_map}
use Rattle.std.specs.Fmt.{HasWritten, IsPlainFormatter}
use Rattle.exif_table.proofs.display.fractions.write_decimal_list.Given as goal

abbrev pub invariant-loop-item : goal.invariant-loop-item
invariant-loop-item g l =
    IsPlainFormatter l.initial.f
    → HasWritten g.W.Write.write_str_gives l.initial.f (flat_map (λ x. codes ", " ++ g.T.AsDecimal.decimal_output x) (take l.item-index l.others)) l.f
