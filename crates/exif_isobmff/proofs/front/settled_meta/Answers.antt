use Rattle.std.proofs.Common.{◌++◌, refl, rules}
use Rattle.exif_isobmff.specs.Boxes.{whole_part}
use Rattle.exif_isobmff.specs.Extents.{behind_meta}
use Rattle.exif_isobmff.specs.HeifFile.{meta_body}
use Rattle.exif_isobmff.proofs.SplitterBoxes.{box_shorter}
use Rattle.exif_isobmff.proofs.FrontBoxes.{behind_by, behind_on, settled_on, settled_by}
use Rattle.exif_isobmff.proofs.front.settled_meta.Goals as goal

pub loop-rest-init : goal.loop-rest-init
unfolding meta_body
loop-rest-init c = record { body = λ more. refl; behind = λ more. refl }

pub returns-in-Meta-clause-body : goal.returns-in-Meta-clause-body
returns-in-Meta-clause-body c =
    rw c.into_rest-body.ensures
    (settled_by c.loop-rest.seen c.loop-rest.rest.now c.in-Ok.body c.child_box.new.self c.in-Ok.kind (λ more. meta_body (c.args.front.now ++ more)) (search rules) (search rules) c.in-Meta.is (search rules) c.loop-rest.invariant.body)

pub returns-in-Meta-clause-behind : goal.returns-in-Meta-clause-behind
returns-in-Meta-clause-behind c =
    rw c.into_rest.ensures
    (behind_by c.loop-rest.rest.now c.in-Ok.body c.child_box.new.self c.in-Ok.kind (λ more. behind_meta (c.args.front.now ++ more)) (search rules) (search rules) c.in-Meta.is c.loop-rest.invariant.behind)

pub loop-rest-smaller : goal.loop-rest-smaller
loop-rest-smaller c =
    rw c.into_rest-rest.ensures (box_shorter c.loop-rest.rest.now (whole_part c.in-Ok.kind c.in-Ok.body) c.child_box.new.self (search rules))

pub loop-rest-preserved : goal.loop-rest-preserved
loop-rest-preserved c =
    rw c.into_rest-rest.ensures record {
      body = settled_on c.loop-rest.seen c.in-Ok-pass.now c.loop-rest.rest.now c.in-Ok.body c.child_box.new.self c.in-Ok.kind (λ more. meta_body (c.args.front.now ++ more)) (search rules) (search rules) c.in_default-kind.not-Meta (search rules) c.loop-rest.invariant.body;
      behind = behind_on c.loop-rest.rest.now c.in-Ok.body c.child_box.new.self c.in-Ok.kind (λ more. behind_meta (c.args.front.now ++ more)) (search rules) (search rules) c.in_default-kind.not-Meta c.loop-rest.invariant.behind;
    }
