use Rattle.std.proofs.Common.{◌≡◌, take}
use Rattle.std.specs.Prelude.{map}
use Rattle.sqlite.specs.Values.{bound}
use Rattle.exif_catalog.specs.Statements.{parameter_value}
use Rattle.exif_catalog.proofs.catalog.parameters_of.Given as goal

-- the parameters so far
abbrev pub invariant-loop-value : goal.invariant-loop-value
invariant-loop-value l = bound l.parameters.items ≡ map parameter_value (take l.value-index l.values)
