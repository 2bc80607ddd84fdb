use Rattle.std.proofs.Common.{◌≡◌, ℕ, List, ◌++◌, length}
use Rattle.exif_isobmff.specs.Extents.{behind_meta}
use Rattle.exif_isobmff.specs.HeifFile.{meta_body, meta_in}
use Rattle.exif_isobmff.proofs.front.settled_meta.Given as goal

-- whatever follows, what the boxes that are left answer is the answer, and so is what follows `meta`
abbrev pub invariant-loop-rest : goal.invariant-loop-rest
invariant-loop-rest l = record {
  body : (more : List ℕ) → meta_in l.seen (l.rest ++ more) ≡ meta_body (l.front ++ more);
  behind : (more : List ℕ) → behind_meta (l.rest ++ more) ≡ behind_meta (l.front ++ more);
}

abbrev pub decreases-loop-rest : goal.decreases-loop-rest
decreases-loop-rest l = length l.rest
