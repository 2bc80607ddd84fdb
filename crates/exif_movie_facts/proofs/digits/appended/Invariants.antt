use Rattle.std.proofs.Common.{◌≡◌, ◌≤◌, ◌^◌, drop}
use Rattle.exif_movie_facts.specs.Digits.{appended}
use Rattle.exif_movie_facts.proofs.digits.appended.Given as goal

-- those that are left, appended to what was made, are all
abbrev pub invariant-loop-b : goal.invariant-loop-b
invariant-loop-b l = record {
  made : appended l.value l.scale (drop l.b-index l.digits) ≡ appended l.fn.start.value l.fn.start.scale l.digits;
  value : l.value ≤ 10 ^ 17;
  scale : l.scale ≤ 10 ^ 17;
}
