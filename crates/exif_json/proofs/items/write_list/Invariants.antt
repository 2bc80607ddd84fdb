use Rattle.exif_json.proofs.Prints.{HasListed}
use Rattle.exif_json.proofs.items.write_list.Given as goal

-- the items so far
abbrev pub invariant-loop-item : goal.invariant-loop-item
invariant-loop-item g l = HasListed g.T.Item.json l.items l.item-index l.initial.printer.out l.printer.out
