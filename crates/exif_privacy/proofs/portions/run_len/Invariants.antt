use Rattle.std.proofs.Common.{◌≡◌, ◌≤◌, drop}
use Rattle.exif_privacy.specs.Portions.{run_len}
use Rattle.exif_privacy.proofs.portions.run_len.Given as goal

-- the parts so far go on, and end within the packet
abbrev pub invariant-loop-n : goal.invariant-loop-n
invariant-loop-n l = record {
  same : run_len l.file l.first l.n l.at (drop l.n l.parts) ≡ run_len l.file l.first 0 0 l.parts;
  within : l.at ≤ l.full;
}
