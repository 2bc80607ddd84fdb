use Rattle.std.proofs.Common.{◌≡◌, ◌≤◌, ◌<◌, ◌+◌, ◌*◌, ◌-◌, ◌++◌, length, map, take}
use Rattle.exif_base.specs.Bytes.{number_at, spaced}
use Rattle.exif_base.specs.Orders.{number_of}
use Rattle.exif_edit_base.specs.GpsOffsets.{max_pointers, offset_len, offsets_in}
use Rattle.exif_edit_base.proofs.offsets.add_offsets.Given as goal

-- what is left of the offsets adds what all of them do
abbrev pub invariant-loop : goal.invariant-loop
invariant-loop l =
    let len = offset_len l.field_type in
    record {
      few : length l.pointers.items ≤ 256;
      space : l.counter < l.end → l.at + len * (l.end - l.counter) ≤ length l.bytes;
      rest : take max_pointers
          (l.pointers.items
          ++ map (number_at (number_of l.order) len l.bytes)
          (spaced l.at len (l.end - l.counter)))
          ≡ take max_pointers
          (l.fn.pointers.items ++ offsets_in (number_of l.order) l.bytes l.entry);
    }
