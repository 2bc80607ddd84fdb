use Rattle.std.proofs.Common.{◌≡◌, map, take}
use Rattle.exif_types.proofs.value.Value.ascii.Given as goal

abbrev pub invariant-loop-text : goal.invariant-loop-text
invariant-loop-text l = l.items.items ≡ map (λ text. text.now) (take l.text-index l.texts)
