use Rattle.std.proofs.Common.{rules}
use Rattle.std.specs.Prelude.{IfOk}
use Rattle.exif_thumbnails.specs.Places.{IsReadAt}
use Rattle.exif_inputs.proofs.ShownLemmas.{ok_place}
use Rattle.exif_inputs.proofs.thumbnails.held_place.Goals as goal

pub returns : goal.returns
returns c =
    let told : IfOk c.read_place.result (λ found. IsReadAt c.args.place c.args.bytes.now found) = search rules in
    ok_place c.args.place c.args.bytes.now c.read_place.result told
