use Rattle.std.proofs.Common.{◌≡◌, ◌≤◌, ◌<◌, ◌+◌, ◌*◌, ◌-◌, length}
use Rattle.std.specs.List.{flat_map}
use Rattle.exif_base.specs.Bytes.{spaced}
use Rattle.exif_tiff.specs.Trace.{directory_nodes, entry_nodes, depth_of}
use Rattle.exif_tiff.specs.Running.{run}
use Rattle.exif_tiff.proofs.parser.Parser.+nodes.Given as goal

abbrev pub decreases-directory : goal.decreases-directory
decreases-directory g l = 3 * depth_of l.context

abbrev pub decreases-entry : goal.decreases-entry
decreases-entry g l = 3 * depth_of l.context - 1

abbrev pub decreases-pointer : goal.decreases-pointer
decreases-pointer g l = 3 * depth_of l.child + 1

-- what is left of the entries takes the parser where all of them do
abbrev pub invariant-directory-loop : goal.invariant-directory-loop
invariant-directory-loop g l =
    let number = g.E.Endian.number_of in
    let entry = entry_nodes (directory_nodes (depth_of l.context - 1) number l.bytes l.ifd_num.0) number l.bytes l.context l.ifd_num.0 l.offset in
    record {
      room : l.counter < l.entries → l.at + 12 * (l.entries - l.counter) ≤ length l.bytes;
      follows : run (flat_map entry (spaced l.at 12 (l.entries - l.counter))) l.self ≡ run (directory_nodes (depth_of l.context) number l.bytes l.ifd_num.0 l.context l.offset) l.fn.self;
    }
