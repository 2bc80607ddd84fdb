use Rattle.std.proofs.Common.{◌≡◌, ◌+◌, ◌-◌, length}
use Rattle.exif_xml.specs.Refusals.{walk}
use Rattle.exif_xmp.specs.Reading.{read_all, read_step}
use Rattle.exif_xmp.specs.Refusals.{truncated}
use Rattle.exif_xmp.specs.States.{state_view}
use Rattle.exif_xmp.proofs.reading.read_all.Given as goal

abbrev pub invariant-loop : goal.invariant-loop
invariant-loop l = record {
  rest : walk truncated (read_step l.packet) (length l.packet - l.counter) l.here (state_view l.state) l.rest ≡ read_all l.packet;
  within : l.here + length l.rest ≡ length l.packet;
}
