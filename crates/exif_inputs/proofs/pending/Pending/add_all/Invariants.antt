use Rattle.std.proofs.Common.{◌≡◌, length, map}
use Rattle.exif_inputs.specs.Pending.{AreAdded, turned, waiting_of}
use Rattle.exif_inputs.proofs.pending.Pending.add_all.Given as goal

-- those that were taken from the end of the list wait
abbrev pub invariant-loop-path : goal.invariant-loop-path
invariant-loop-path l = record {
  waiting : AreAdded (map waiting_of l.initial.self.waiting.items) (map waiting_of l.self.waiting.items) (turned l.fn.is_named l.paths.items) (turned l.fn.is_named l.fn.paths.items);
  counts : l.self.counts ≡ l.initial.self.counts;
  recursive : l.self.recursive ≡ l.initial.self.recursive;
}

abbrev pub decreases-loop-path : goal.decreases-loop-path
decreases-loop-path l = length l.paths.items
