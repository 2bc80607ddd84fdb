use Rattle.std.proofs.Common.{All, length}
use Rattle.exif_edit_base.specs.Patches.{FitsIn}
use Rattle.exif_edit.specs.Promises.{FindsValue}
use Rattle.exif_grow.specs.Growing.{added_of, grown}
use Rattle.exif_grow.specs.Promises.{IsGrown}
use Rattle.exif_grow.specs.Setting.{grow_answer}
use Rattle.exif_grow.proofs.GrowSteps.{grow_promised}
use Rattle.exif_grow.proofs.GrowthSteps.{on_ok}
use Rattle.exif_grow.proofs.grow.grow_value.Goals as goal

pub returns-clause-within : goal.returns-clause-within
returns-clause-within c =
    let bytes = c.args.bytes.now in
    let tag = c.args.tag in
    let k = c.args.ifd_num in
    let value = c.args.value.now in
    on_ok (λ g. All (FitsIn (length bytes)) g.patches.items) c.grow.result
    (grow_answer bytes tag k value) c.grow.ensures.answer
    (λ g h. (grow_promised bytes (added_of g) tag k value h).fits)

pub returns-clause-grown : goal.returns-clause-grown
returns-clause-grown c =
    let bytes = c.args.bytes.now in
    let tag = c.args.tag in
    let k = c.args.ifd_num in
    let value = c.args.value.now in
    on_ok (λ g. IsGrown bytes tag k value (grown (added_of g) bytes)) c.grow.result
    (grow_answer bytes tag k value) c.grow.ensures.answer
    (λ g h. (grow_promised bytes (added_of g) tag k value h).promise)

pub returns-clause-found : goal.returns-clause-found
returns-clause-found c =
    let bytes = c.args.bytes.now in
    let tag = c.args.tag in
    let k = c.args.ifd_num in
    let value = c.args.value.now in
    on_ok (λ g. FindsValue tag k value (grown (added_of g) bytes)) c.grow.result
    (grow_answer bytes tag k value) c.grow.ensures.answer
    (λ g h. (grow_promised bytes (added_of g) tag k value h).found)
