use Rattle.std.proofs.Common.{refl}
use Rattle.std.proofs.lemmas.List.{append-nil}
use Rattle.exif_json.specs.Values.{bits_json}
use Rattle.exif_json.proofs.Prints.{listed_all, listed_more}
use Rattle.exif_json.proofs.values.write_floats.Goals as goal

pub loop-item-preserved : goal.loop-item-preserved
loop-item-preserved c =
    let said = rw (c.from_ref.ensures.value, append-nil _) at (c.in_ok-shown.ensures.prints _ refl) in
    listed_more (bits_json 8) _ _ _ _ _ _ _ c.loop-item-test.true refl c.loop-item.invariant said.written said.before

pub returns : goal.returns
returns c = listed_all _ (bits_json 8) _ _ _ _ _ _ c.in_ok-begin_array.ensures.ok c.in_ok-begin_array.ensures.room.0 c.loop-item-test.false c.loop-item.invariant c.end_array.ensures.ok c.end_array.ensures.room.0
