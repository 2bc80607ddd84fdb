use Rattle.std.proofs.Common.{codes, refl, true}
use Rattle.std.specs.Fmt.{decimal}
use Rattle.std.proofs.Output.{has_written_append, has_written_of_eq}
use Rattle.exif_decisions.specs.Summaries.{partial_text, skipped_text, some_text}
use Rattle.exif_decisions.proofs.SummaryLemmas.{line}
use Rattle.exif_decisions.proofs.summary.SummaryDisplay.fmt.Goals as goal

pub returns-clause-writes : goal.returns-clause-writes
returns-clause-writes g c plain ok =
    let summary = c.args.self.now in
    let counts = summary.counts.now in
    let done = c.in_ok-write.ensures.writes plain (refl {a = true}) in
    let part = c.in_ok-write_partial.ensures done.plain (refl {a = true}) in
    let current = c.in_ok-write_some.ensures part.plain (refl {a = true}) in
    let unchanged = c.in_ok-write_some-2.ensures current.plain (refl {a = true}) in
    let refused = c.in_ok-write-2.ensures.writes unchanged.plain (refl {a = true}) in
    let skipped = c.write_skipped.ensures refused.plain ok in
    has_written_of_eq _ _ _ _ _ (line (decimal counts.done) (codes " ") summary.verb.now (partial_text counts.partial summary.partial.now) (some_text counts.current (codes "already so")) (some_text counts.unchanged (codes "left unchanged")) (codes ", ") (decimal counts.refused) (codes " refused, ") (skipped_text counts)) (has_written_append _ _ _ _ _ _ done (has_written_append _ _ _ _ _ _ part (has_written_append _ _ _ _ _ _ current (has_written_append _ _ _ _ _ _ unchanged (has_written_append _ _ _ _ _ _ refused skipped)))))
