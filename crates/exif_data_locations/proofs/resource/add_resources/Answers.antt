use Rattle.std.proofs.Common.{◌+◌, ◌++◌, ◌∷◌, [], length, take, drop, ap, ◌∙◌, arith}
use Rattle.std.proofs.lemmas.Bool.Decides.{nat_tests}
use Rattle.std.proofs.lemmas.List.{take_rest}
use Rattle.exif_data_locations.specs.Resources.{resource_regions}
use Rattle.exif_data_locations.proofs.ResourceSteps.{walks_on, walks_over}
use Rattle.exif_data_locations.proofs.resource.add_resources.Goals as goal

pub loop-rest-preserved : goal.loop-rest-preserved
loop-rest-preserved c =
    let rest = c.loop-rest.rest.now in
    let r = c.resource_at-resource.result in
    walks_on c.args.tag (length c.args.bytes.now) (c.args.offset + c.args.len)
    (c.args.regions.now.items
    ++ resource_regions c.args.tag c.args.offset (take c.args.len (drop c.args.offset c.args.bytes.now)))
    c.loop-rest.regions.items c.push.new.self.items c.loop-rest.at rest _ r c.loop-rest.invariant
    c.requires.within (grind (arith, nat_tests)) c.resource_at-resource.ensures.value
    c.resource_at-resource.ensures.some c.resource_at-resource.ensures.within
    c.resource_at-resource.ensures.framed (c.in_ok-push.ensures.items ∙ ap (λ x. c.loop-rest.regions.items ++ x ∷ []) c.region_of.ensures) (take_rest rest r.len)

pub returns-clause-value : goal.returns-clause-value
returns-clause-value c =
    walks_over c.args.tag (length c.args.bytes.now) (c.args.offset + c.args.len)
    (c.args.regions.now.items
    ++ resource_regions c.args.tag c.args.offset (take c.args.len (drop c.args.offset c.args.bytes.now)))
    c.loop-rest.regions.items c.loop-rest.at c.loop-rest.rest.now c.loop-rest.invariant
    (grind (arith, nat_tests))
