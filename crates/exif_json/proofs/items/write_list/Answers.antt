use Rattle.exif_json.proofs.Prints.{listed_all, listed_none}
use Rattle.exif_json.proofs.items.write_list.Goals as goal

pub loop-item-init : goal.loop-item-init
loop-item-init g c = listed_none _ _ _

pub returns : goal.returns
returns g c = listed_all _ g.T.Item.json _ _ _ _ _ _ c.in_ok-begin_array.ensures.ok c.in_ok-begin_array.ensures.room.0 c.loop-item-test.false c.loop-item.invariant c.end_array.ensures.ok c.end_array.ensures.room.0
