use Rattle.std.proofs.Common.{◌≡◌, ◌<◌, ◌^◌, take}
use Rattle.exif_types.specs.Texts.{ended_length}
use Rattle.exif_types.proofs.value.ended_length.Given as goal

abbrev pub invariant-loop-text : goal.invariant-loop-text
invariant-loop-text l = record {
  sum : l.length ≡ ended_length (take l.text-index l.texts);
  fits : l.length < 2 ^ 32;
}
