use Rattle.std.proofs.Common.{take, codes, ◌++◌}
use Rattle.std.specs.List.{flat_map}
use Rattle.std.specs.Fmt.{HasWritten, IsPlainFormatter}
use Rattle.exif_text.specs.Quoted.{quoted}
use Rattle.exif_text.proofs.plain.write_texts.Given as goal

abbrev pub invariant-loop-text : goal.invariant-loop-text
invariant-loop-text g l =
    IsPlainFormatter l.initial.f
    → HasWritten g.W.Write.write_str_gives l.initial.f (flat_map (λ t. codes ", " ++ quoted t) (take l.text-index l.others)) l.f
