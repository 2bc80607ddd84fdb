use Rattle.std.proofs.Common.{◌≡◌, ◌≤◌, ◌<◌, ◌+◌, ◌*◌, ◌-◌, ◌++◌, length, take}
use Rattle.std.specs.List.{flat_map}
use Rattle.exif_base.specs.Bytes.{spaced}
use Rattle.exif_base.specs.Orders.{number_of}
use Rattle.exif_tiff.specs.Trace.{entry_offsets}
use Rattle.exif_edit_base.specs.GpsOffsets.{max_pointers, pointers_in}
use Rattle.exif_edit_base.proofs.offsets.pointers.Given as goal

-- what is left of the entries adds what all of them do
abbrev pub invariant-loop : goal.invariant-loop
invariant-loop l =
    let within = pointers_in l.target (number_of l.order) l.bytes in
    record {
      few : length l.pointers.items ≤ 256;
      space : l.counter < l.end → l.at + 12 * (l.end - l.counter) ≤ length l.bytes;
      rest : take max_pointers
          (l.pointers.items ++ flat_map within (spaced l.at 12 (l.end - l.counter)))
          ≡ take max_pointers
          (flat_map within (entry_offsets (number_of l.order) l.bytes l.offset));
    }
