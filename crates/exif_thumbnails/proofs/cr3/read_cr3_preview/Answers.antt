use Rattle.std.proofs.Common.{List, ℕ, Ok, ap, sym, ◌∙◌}
use Rattle.std.specs.Option.{option_and_then}
use Rattle.exif_types.specs.Refusals.{◌>>=◌}
use Rattle.exif_thumbnails.specs.Canon.{preview_in}
use Rattle.exif_thumbnails.proofs.PrefixSteps.{along}
use Rattle.exif_thumbnails.proofs.cr3.read_cr3_preview.Goals as goal

pub returns-clause-found : goal.returns-clause-found
returns-clause-found g c =
    along (g.R.Source.left c.args.source.now) _ _
    (λ (xs : List ℕ) e. ap (λ r. r >>= λ found. Ok (option_and_then preview_in found)) e
    ∙ ap (λ t. Ok t) (sym (c.in_ok-preview_in.ensures ∙ ap preview_in c.deref.ensures.value)))
    (rw c.in-Some.is at c.in_ok-held.ensures.found)
