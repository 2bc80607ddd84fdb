use Rattle.std.proofs.Common.{◌≡◌, ◌≤◌, ◌+◌, None, drop, map}
use Rattle.std.specs.Prelude.{IfSome}
use Rattle.exif_xmp.specs.Properties.{property_view}
use Rattle.exif_xmp_set.specs.Items.{last_from}
use Rattle.exif_xmp_set.proofs.items.last_item.Given as goal

-- the last item of the properties that remain, behind the one so far, is that of all
abbrev pub invariant-loop-i : goal.invariant-loop-i
invariant-loop-i l = record {
  same : last_from l.namespace l.path None 0 (map property_view l.properties)
      ≡ last_from l.namespace l.path l.last l.i (map property_view (drop l.i l.properties));
  position : IfSome l.last (λ item. item.position + 1 ≤ l.i);
  count : IfSome l.last (λ item. item.count ≤ l.i);
}
