use Rattle.std.proofs.Common.{◌≡◌, drop}
use Rattle.exif_test_support.specs.FromMemory.{entry_if, looked}
use Rattle.exif_test_support.proofs.memory.look.Given as goal

abbrev pub invariant-loop-put : goal.invariant-loop-put
invariant-loop-put l = looked (entry_if l.found) (drop l.put-index l.puts) l.name ≡ looked (entry_if l.initial.found) l.puts l.name
