use Rattle.std.proofs.Common.{rules, ◌≡◌, ◌++◌, [], ◌∷◌, None, Some, refl}
use Rattle.exif_test_support.specs.declared.memory.Put.{Put}
use Rattle.exif_test_support.specs.declared.memory.Step.{Step}
use Rattle.exif_test_support.specs.FromMemory.{entry, PutsTwo}
use Rattle.exif_test_support.proofs.MemorySteps.{moves_one, puts_two}
use Rattle.exif_test_support.proofs.memory.MemoryFiles.put_two.Goals as goal

pub returns : goal.returns
returns c =
    let put : Put = record { name = c.in_ok-gone.gone; file = None } in
    let put' : Put = record { name = c.in_ok-name.name; file = Some c.args.file } in
    let step : Step = record { puts = c.push-2.new.self } in
    let more : c.push-3.new.self.items ≡ c.args.self.now.steps.items ++ step ∷ [] = search rules in
    let two : step.puts.items ≡ put ∷ put' ∷ [] = search rules in
    let is : put.name.items ≡ c.args.gone.now = search rules in
    let is' : put'.name.items ≡ c.args.name.now = search rules in
    record {
      done = moves_one (PutsTwo c.args.gone.now c.args.name.now (entry c.args.file)) c.args.self.now.steps.items _ step more
          (puts_two c.args.self.now.steps.items step put put' c.args.gone.now c.args.name.now c.args.file c.requires two is refl is' refl);
      failed = tt;
      count = refl;
    }
