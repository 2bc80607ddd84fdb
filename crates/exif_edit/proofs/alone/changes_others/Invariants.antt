use Rattle.std.proofs.Common.{◌≡◌, ◌≤◌, ◌<◌, ◌+◌, ◌*◌, ◌-◌, length}
use Rattle.std.specs.List.{flat_map, list_any}
use Rattle.exif_base.specs.Bytes.{spaced}
use Rattle.exif_base.specs.Orders.{number_of}
use Rattle.exif_edit.specs.Sharing.{other_entry}
use Rattle.exif_tiff.specs.Trace.{entry_offsets}
use Rattle.exif_edit.specs.Changing.{changes}
use Rattle.exif_edit.proofs.alone.changes_others.Given as goal

-- what is left of the entries decides for all of them
abbrev pub invariant-loop : goal.invariant-loop
invariant-loop l =
    let other = other_entry (number_of l.order) l.bytes l.entry in
    record {
      space : l.counter < l.end → l.at + 12 * (l.end - l.counter) ≤ length l.bytes;
      follows : list_any (changes l.patches)
          (flat_map other (spaced l.at 12 (l.end - l.counter)))
          ≡ list_any (changes l.patches)
          (flat_map other (entry_offsets (number_of l.order) l.bytes l.offset));
    }
