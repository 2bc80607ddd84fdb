use Rattle.std.proofs.Common.{◌≡◌, ◌≤◌, ◌-◌}
use Rattle.exif_base.specs.Seekable.{known_stream}
use Rattle.exif_base.specs.Told.{Skips}
use Rattle.exif_base.proofs.seekable.read_over.Given as goal

abbrev pub invariant-loop-rest : goal.invariant-loop-rest
invariant-loop-rest g l = record {
  in_range : l.rest ≤ l.len;
  stream : known_stream (g.R.Seek.stream_position l.reader) (g.R.Seek.stream_bytes l.reader) ≡ known_stream (g.R.Seek.stream_position l.initial.reader) (g.R.Seek.stream_bytes l.initial.reader);
  taken : Skips (g.R.Read.remaining l.initial.reader) (g.R.Read.remaining l.reader) (l.len - l.rest);
}

abbrev pub decreases-loop-rest : goal.decreases-loop-rest
decreases-loop-rest g l = l.rest
