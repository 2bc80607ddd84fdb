use Rattle.std.proofs.Common.{◌≡◌, take}
use Rattle.exif_types.proofs.value.copy_texts.Given as goal

abbrev pub invariant-loop-text : goal.invariant-loop-text
invariant-loop-text l = l.copy.items ≡ take l.text-index l.texts
