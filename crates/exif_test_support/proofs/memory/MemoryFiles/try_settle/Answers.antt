use Rattle.std.proofs.Common.{rules, ◌≡◌, ◌++◌, [], ◌∷◌}
use Rattle.exif_test_support.specs.declared.memory.Step.{Step}
use Rattle.exif_files.specs.Steps.{Settles}
use Rattle.exif_test_support.proofs.MemorySteps.{moves_one, settles_one}
use Rattle.exif_test_support.proofs.memory.MemoryFiles.try_settle.Goals as goal

pub returns : goal.returns
returns c =
    let step : Step = record { puts = c.new-puts.result } in
    let more : c.push.new.self.items ≡ c.args.self.now.steps.items ++ step ∷ [] = search rules in
    let none : step.puts.items ≡ [] = search rules in
    record {
      done = moves_one (Settles c.args.name.now) c.args.self.now.steps.items _ step more (settles_one c.args.name.now c.args.self.now.steps.items step none);
      failed = tt;
      count = search rules;
    }
