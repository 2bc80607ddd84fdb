use Rattle.std.proofs.Common.{◌≡◌, ◌≤◌, ◌+◌, ◌*◌, ◌-◌, ◌++◌, length}
use Rattle.exif_base.specs.Bytes.{items_at}
use Rattle.exif_tiff.proofs.decode.decode_items.Given as goal

-- the items so far and those that are left make up all
abbrev pub invariant-loop : goal.invariant-loop
invariant-loop g l =
    let item = g.T.Item.item_at g.E.Endian.number_of l.bytes in
    record {
      room : l.at + g.T.Item.LEN * (l.count - l.counter) ≤ length l.bytes;
      all : l.items.items ++ items_at item g.T.Item.LEN (l.count - l.counter) l.at ≡ items_at item g.T.Item.LEN l.fn.count l.fn.offset;
    }
