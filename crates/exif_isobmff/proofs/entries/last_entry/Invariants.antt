use Rattle.std.proofs.Common.{◌≡◌, ◌-◌, None}
use Rattle.exif_types.specs.Refusals.{last_read}
use Rattle.exif_isobmff.specs.Boxes.{times_joined}
use Rattle.exif_isobmff.specs.Entries.{entry_at}
use Rattle.exif_isobmff.proofs.entries.last_entry.Given as goal

-- what was found and what is still read is what is read in all
abbrev pub invariant-loop : goal.invariant-loop
invariant-loop l =
    last_read l.last (times_joined (l.count - l.counter) (entry_at l.wanted l.version l.sizes) l.body)
    ≡ last_read None (times_joined l.count (entry_at l.wanted l.version l.sizes) l.fn.body)
