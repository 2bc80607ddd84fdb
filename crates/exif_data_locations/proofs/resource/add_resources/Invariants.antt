use Rattle.std.proofs.Common.{◌+◌, ◌++◌, length, take, drop}
use Rattle.exif_data_locations.specs.Resources.{resource_regions}
use Rattle.exif_data_locations.proofs.ResourceSteps.{Walks}
use Rattle.exif_data_locations.proofs.resource.add_resources.Given as goal

-- the regions with those of what is left are those of all resources
abbrev pub invariant-loop-rest : goal.invariant-loop-rest
invariant-loop-rest l =
    Walks l.tag (length l.bytes) (l.offset + l.len)
    (l.fn.regions.items ++ resource_regions l.tag l.offset (take l.len (drop l.offset l.bytes)))
    l.regions.items l.at l.rest

abbrev pub decreases-loop-rest : goal.decreases-loop-rest
decreases-loop-rest l = length l.rest
