use Rattle.std.proofs.Common.{◌≡◌, ◌+◌, ◌≤◌, drop, cond, eqb}
use Rattle.exif_geotag.specs.Texts.{kept_len}
use Rattle.exif_geotag.proofs.text.kept_len.Given as goal

abbrev pub invariant-loop-at : goal.invariant-loop-at
invariant-loop-at l = record {
  rest : kept_len l.text ≡ cond (eqb (kept_len (drop l.at l.text)) 0) l.kept (l.at + kept_len (drop l.at l.text));
  within : l.kept ≤ l.at;
}
