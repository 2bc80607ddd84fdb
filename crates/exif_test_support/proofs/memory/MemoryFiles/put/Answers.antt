use Rattle.std.proofs.Common.{rules, ◌≡◌, ◌++◌, [], ◌∷◌, refl}
use Rattle.exif_test_support.specs.declared.memory.Put.{Put}
use Rattle.exif_test_support.specs.declared.memory.Step.{Step}
use Rattle.exif_test_support.specs.FromMemory.{entry_if, Puts}
use Rattle.exif_test_support.proofs.MemorySteps.{moves_one, puts_one}
use Rattle.exif_test_support.proofs.memory.MemoryFiles.put.Goals as goal

pub returns : goal.returns
returns c =
    let put : Put = record { name = c.in_ok-name.name; file = c.args.file } in
    let step : Step = record { puts = c.push.new.self } in
    let more : c.push-2.new.self.items ≡ c.args.self.now.steps.items ++ step ∷ [] = search rules in
    let one : step.puts.items ≡ put ∷ [] = search rules in
    let is : put.name.items ≡ c.args.name.now = search rules in
    record {
      done = moves_one (Puts c.args.name.now (entry_if c.args.file)) c.args.self.now.steps.items _ step more (puts_one c.args.self.now.steps.items step put c.args.name.now c.args.file one is refl);
      failed = tt;
      count = refl;
    }
