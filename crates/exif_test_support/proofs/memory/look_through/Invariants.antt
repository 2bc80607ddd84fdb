use Rattle.std.proofs.Common.{◌≡◌, drop, None}
use Rattle.exif_test_support.specs.FromMemory.{entry_if, looked_all}
use Rattle.exif_test_support.proofs.memory.look_through.Given as goal

abbrev pub invariant-loop-step : goal.invariant-loop-step
invariant-loop-step l = looked_all (entry_if l.found) (drop l.step-index l.steps) l.name ≡ looked_all None l.steps l.name
