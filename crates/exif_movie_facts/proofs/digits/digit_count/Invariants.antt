use Rattle.std.proofs.Common.{◌≡◌, ◌+◌, drop}
use Rattle.exif_movie_facts.specs.Digits.{digit_count}
use Rattle.exif_movie_facts.proofs.digits.digit_count.Given as goal

-- those so far are digits
abbrev pub invariant-loop-b : goal.invariant-loop-b
invariant-loop-b l = record {
  counted : l.n + digit_count (drop l.b-index l.bytes) ≡ digit_count l.bytes;
  so_far : l.n ≡ l.b-index;
}
