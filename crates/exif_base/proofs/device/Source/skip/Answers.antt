use Rattle.std.proofs.Common.{arith, rules, ◌≤◌}
use Rattle.std.proofs.lemmas.List.{length-take-le}
use Rattle.exif_base.proofs.ReadSteps.{skips_more}
use Rattle.exif_base.proofs.device.Source.skip.Goals as goal

pub loop-rest-preserved : goal.loop-rest-preserved
loop-rest-preserved g c =
    let read = c.in_ok-n.ensures in
    let within : c.in_ok-n.n ≤ c.min-room.result = search rules in record {
      in_range = search rules;
      taken = skips_more _ _ _ _ _ _ c.loop-rest.invariant.taken read.bytes.0 (omega (arith, length-take-le c.in_ok-n.n c.fetch.new.buf read.bound.0));
      count = search rules;
      stream = search rules;
      same = search rules;
    }
