use Rattle.std.proofs.Common.{map, reverse}
use Rattle.exif_decisions.specs.Names.{names_listed}
use Rattle.exif_inputs.specs.Pending.{named, waiting_of}
use Rattle.exif_inputs.proofs.PendingLemmas.{none_yet}
use Rattle.exif_inputs.proofs.pending.Pending.add_listed.Goals as goal

pub returns-in_err-paths-clause-partly : goal.returns-in_err-paths-clause-partly
returns-in_err-paths-clause-partly c =
    let all = reverse (map named (names_listed c.args.names.now)) in
    (all, none_yet (map waiting_of c.args.self.now.waiting.items) all)
