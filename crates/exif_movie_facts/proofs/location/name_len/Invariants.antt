use Rattle.std.proofs.Common.{◌≡◌, ◌+◌, drop}
use Rattle.exif_movie_facts.specs.Locations.{name_len}
use Rattle.exif_movie_facts.proofs.location.name_len.Given as goal

-- those so far are not zero
abbrev pub invariant-loop-b : goal.invariant-loop-b
invariant-loop-b l = record {
  counted : l.n + name_len (drop l.b-index l.bytes) ≡ name_len l.bytes;
  so_far : l.n ≡ l.b-index;
}
