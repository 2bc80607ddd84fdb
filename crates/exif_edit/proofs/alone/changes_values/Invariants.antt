use Rattle.std.proofs.Common.{◌≡◌, ◌≤◌, ◌<◌, ◌+◌, ◌*◌, ◌-◌, length}
use Rattle.std.specs.List.{flat_map, list_any}
use Rattle.exif_base.specs.Bytes.{spaced}
use Rattle.exif_base.specs.Orders.{number_of}
use Rattle.exif_tiff.specs.Footprint.{value_stretch}
use Rattle.exif_tiff.specs.Trace.{entry_offsets}
use Rattle.exif_edit.specs.Changing.{changes}
use Rattle.exif_edit.proofs.alone.changes_values.Given as goal

-- what is left of the entries decides for all of them
abbrev pub invariant-loop : goal.invariant-loop
invariant-loop l =
    let value = value_stretch (number_of l.order) l.bytes in
    record {
      space : l.counter < l.end → l.at + 12 * (l.end - l.counter) ≤ length l.bytes;
      follows : list_any (changes l.patches)
          (flat_map value (spaced l.at 12 (l.end - l.counter)))
          ≡ list_any (changes l.patches)
          (flat_map value (entry_offsets (number_of l.order) l.bytes l.offset));
    }
