use Rattle.std.proofs.Common.{rules}
use Rattle.exif_text.proofs.QuotedLemmas.{quoted_injective}
use Rattle.exif_text.proofs.laws.quoted_tells_bytes.Goals as goal

pub returns : goal.returns
returns c = quoted_injective c.args._a.now c.args._b.now (λ k. search rules) (λ k. search rules)
