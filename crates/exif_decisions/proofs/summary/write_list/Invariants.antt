use Rattle.std.proofs.Common.{◌≡◌, ◌++◌, ℕ, List, drop, map}
use Rattle.std.specs.Fmt.{HasWritten, IsPlainFormatter}
use Rattle.exif_decisions.specs.Summaries.{amount_of, listed}
use Rattle.exif_decisions.proofs.SummaryLemmas.{after}
use Rattle.exif_decisions.proofs.summary.write_list.Given as goal

-- what was written, and what follows, is all
abbrev pub invariant-loop-amount : goal.invariant-loop-amount
invariant-loop-amount g l =
    IsPlainFormatter l.initial.f → (text : List ℕ)
    × (HasWritten g.W.Write.write_str_gives l.initial.f text l.f
    × (text ++ after l.is_begun l.between (map amount_of (drop l.amount-index l.amounts))
    ≡ listed l.between (map amount_of l.amounts)))
