use Rattle.exif_rename.proofs.Parsed.{no_name_good, no_name_goes_on}
use Rattle.std.proofs.Common.{◌≡◌, ◌+◌, ◌-◌, ◌<◌, ◌==◌, true, false, length, take, drop, arith}
use Rattle.std.proofs.lemmas.Grind.{common_steps}
use Rattle.std.proofs.lemmas.Bool.Decides.{nat_tests}
use Rattle.exif_rename.specs.Patterns.{is_no_name}
use Rattle.exif_rename.proofs.pattern.no_name.Goals as goal
use Rattle.exif_rename.proofs.pattern.no_name.Goals.{then-c-eq47+else-is_no_name, else-c-eq47}

pub loop-at-preserved : goal.loop-at-preserved
loop-at-preserved c =
    let within : c.loop-at.at < length c.args.all.now = omega arith in
    elim c.if-c-eq47.branch [
      | then-c-eq47+else-is_no_name w ↦
          let slash : (c.index-all-at.result == 47) ≡ true = grind (arith, nat_tests) in
          let good : is_no_name (take (c.loop-at.at - c.loop-at.start) (drop c.loop-at.start c.args.all.now)) ≡ false = grind (arith, common_steps) in
          let start : c.if-c-eq47.start ≡ c.loop-at.at + 1 = w.start-is in
          record { before = omega arith; so_far = rw start (no_name_good c.args.all.now c.loop-at.start c.loop-at.at c.index-all-at.result c.loop-at.invariant.before within c.index-all-at.is slash good c.loop-at.invariant.so_far) }
      | else-c-eq47 w ↦
          let other : (c.index-all-at.result == 47) ≡ false = grind (arith, nat_tests) in
          let start : c.if-c-eq47.start ≡ c.loop-at.start = w.start-is in
          record { before = omega arith; so_far = rw start (no_name_goes_on c.args.all.now c.loop-at.start c.loop-at.at c.index-all-at.result c.loop-at.invariant.before within c.index-all-at.is other c.loop-at.invariant.so_far) }
    ]
